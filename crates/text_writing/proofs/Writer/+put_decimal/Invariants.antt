-- By recursion: a tenth is less.
use Rattle.text_writing.proofs.Writer.+put_decimal.Given as goal

abbrev pub decreases-put_decimal : goal.decreases-put_decimal
decreases-put_decimal l = l.number

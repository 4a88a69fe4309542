-- Laws of Formats.antt.
use Rattle.std.specs.Prelude.{ℕ, ◌+◌, ◌*◌, ◌≤◌, ◌≡◌, List, ◌++◌, length, drop}
use Rattle.std.proofs.Common.{ap, ◌∙◌, append_assoc, arith, length-append}
use Rattle.text_writing.specs.Numerals.{hex2, hex4}
use Rattle.tape_records.specs.Records.{hexes}
use Rattle.tape_records.specs.Contents.{Stretch, stretch, finish}
use Rattle.tape_records.specs.Grammar.{Fit}
use Rattle.tape_paper.specs.Grammar.{sum_of}
use Rattle.tape_paper.specs.Lemmas.Lawful.{tape_lawful}
use Rattle.tape_intel.specs.Grammar.{body, check}
use Rattle.tape_intel.specs.Lemmas.Lawful.{hex_lawful}
use Rattle.tape_loading.specs.declared.Format.{Format}
use Rattle.tape_loading.specs.declared.Format.TheVariants.{Tape, Hex}
use Rattle.tape_loading.specs.Inner.Formats.{item_of, head_size}

pub head_small : (f : Format) → head_size f ≤ 4
head_small Tape = omega arith
head_small Hex = omega arith

-- What is known of a data record that begins a text: its data stand after the head, and all of it is there.
pub record Known (f : Format) (t : List ℕ) (r : Stretch) : Type 0 where
  pub fit : Fit r
  pub rest : List ℕ
  pub digits : drop (1 + 2 * head_size f) t ≡ hexes r.bytes ++ rest
  pub room : 11 + 2 * length r.bytes ≤ length t

pub known : (f : Format) (k : ℕ) (t : List ℕ) (r : Stretch) → item_of f k t ≡ stretch r → Known f t r
known Tape k t r g =
    let back = tape_lawful.data_back k r t g in
    record {
      fit = back.1.0;
      rest = hex4 (sum_of r.first r.bytes) ++ drop (11 + 2 * length r.bytes) t;
      digits =
          ap (drop 7) (back.2 ∙ ap (λ (d : List ℕ). d ++ drop (11 + 2 * length r.bytes) t) back.1.1)
          ∙ append_assoc (hexes r.bytes) (hex4 (sum_of r.first r.bytes)) (drop (11 + 2 * length r.bytes) t);
      room = omega (arith, ap length back.2, length-append back.0 (drop (11 + 2 * length r.bytes) t), (tape_lawful.data_placed k r back.0 back.1).long);
    }
known Hex k t r g =
    let back = hex_lawful.data_back k r t g in
    record {
      fit = back.1.0;
      rest = hex2 (check (body 0 r.first r.bytes)) ++ drop (11 + 2 * length r.bytes) t;
      digits =
          ap (drop 9) (back.2 ∙ ap (λ (d : List ℕ). d ++ drop (11 + 2 * length r.bytes) t) back.1.2)
          ∙ append_assoc (hexes r.bytes) (hex2 (check (body 0 r.first r.bytes))) (drop (11 + 2 * length r.bytes) t);
      room = omega (arith, ap length back.2, length-append back.0 (drop (11 + 2 * length r.bytes) t), (hex_lawful.data_placed k r back.0 back.1).long);
    }

-- an end record has its 11 characters
pub end_room : (f : Format) (k : ℕ) (t : List ℕ) → item_of f k t ≡ finish → 11 ≤ length t
end_room Tape k t g =
    let back = tape_lawful.end_back k t g in
    omega (arith, ap length back.2, length-append back.0 (drop 11 t), (tape_lawful.end_placed k back.0 back.1).long)
end_room Hex k t g =
    let back = hex_lawful.end_back k t g in
    omega (arith, ap length back.2, length-append back.0 (drop 11 t), (hex_lawful.end_placed k back.0 back.1).long)

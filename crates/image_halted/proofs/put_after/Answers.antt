-- A run that is finished leaves its memory.
use Rattle.std.proofs.Common.{◌≤◌, refl, sym, inl, inr, arith, length, length-take-le}
use Rattle.image_halted.proofs.put_after.Goals as goal

pub returns-in-Unnamed : goal.returns-in-Unnamed
returns-in-Unnamed c =
    let inside : 65536 ≤ length c.args.file.now = omega (arith, c.requires) in
    elim c.in-Unnamed.is [
      | inl e ↦ rw e (record { file_after = refl; prefix_len = (inside, sym (length-take-le _ c.args.file.now inside)) })
      | inr e ↦ rw e.1 (record { file_after = refl; prefix_len = (inside, sym (length-take-le _ c.args.file.now inside)) })
    ]

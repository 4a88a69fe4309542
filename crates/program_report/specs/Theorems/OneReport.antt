-- What the promise of `report` is worth.
use Rattle.std.specs.Prelude.{ℕ, ◌≡◌, List, length}
use Rattle.manual.specs.declared.Ended.{Ended}
use Rattle.manual.specs.Micro.{Gives}
use Rattle.manual.specs.Theorems.OneResult.{one_result}
use Rattle.text_writing.specs.declared.Writer.{Writer}
use Rattle.text_writing.specs.Written.{Writes}
use Rattle.text_writing.specs.Lemmas.Written.{one_text}
use Rattle.image_run.specs.Report.{image_run, report_line}

-- The promise of `report` admits one result only: one answer, one length, one image and one text.
pub one_report : (image : List ℕ) (w : Writer) (q₁ q₂ : Ended) {i₁ i₂ : List ℕ} {w₁ w₂ : Writer}
    → Writes w (report_line image) w₁ → Gives (image_run (length image)) image q₁ i₁
    → Writes w (report_line image) w₂ → Gives (image_run (length image)) image q₂ i₂
    → (q₁ ≡ q₂) × (w₁.at ≡ w₂.at) × (i₁ ≡ i₂) × (w₁.out.now ≡ w₂.out.now)
one_report image w q₁ q₂ t₁ g₁ t₂ g₂ =
    let same = one_result (image_run (length image)) image g₁ g₂ in
    let written = one_text t₁.wrote t₂.wrote in
    (same.0, written.1, same.1, written.0)

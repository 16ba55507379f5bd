-- The definition of what the call answers tells its cases apart, so its contract allows one answer and one content of
-- each buffer. Assumes nothing.
use mathlib.Core.Path.{◌≡◌, refl, sym, ◌∙◌}
use Prim.Native.Nat.{ℕ}
use Rattle.std.specs.Prelude.{Result}
use Rattle.dna.specs.declared.NoRoom.{NoRoom}
use Rattle.dna.proofs.Answers.{told_apart}
use Rattle.label_file.specs.Output.{Buffers, Left}
use Rattle.label_file.specs.Says.{list_answer, Lists}

pub list_inj : (a b : Result ℕ NoRoom) → list_answer a ≡ list_answer b → a ≡ b
list_inj = told_apart list_answer (λ n. n) (λ _. 11) (λ _. refl) (λ _. refl) (λ _ _ h. h) (λ _ _ _. refl)

pub lists_one : (r s : Result ℕ NoRoom) {b b' : Buffers} {l : Left} → Lists r b l → Lists s b' l → (r ≡ s) × (b ≡ b')
lists_one r s t u = (list_inj r s (t.answer ∙ sym u.answer), t.after ∙ sym u.after)

-- The definition of what contraction answers tells its cases apart, so its contract allows one result and one content
-- of each slice. Assumes nothing.
use mathlib.Core.Path.{◌≡◌, refl, sym, ap, ◌∙◌}
use mathlib.Core.List.{List, [], ◌∷◌}
use Prim.Native.Nat.{ℕ}
use lib.ListN.{get_or}
use Rattle.std.specs.Prelude.{Result, Ok, Err}
use Rattle.dna.specs.Answer.{Answer, gives, refuses}
use Rattle.graph.specs.Contraction.{Totals, Contracted}
use Rattle.contraction.specs.declared.Unitigs.{Unitigs}
use Rattle.contraction.specs.declared.ContractError.{ContractError}
use Rattle.contraction.specs.declared.ContractError.TheVariants as error
use Rattle.contraction.specs.Says.{contract_answer, Contracts}

-- The case of an answer; contraction has no refusal but 1, 5, 7, 8, 9 and 15.
abbrev case_of : Answer Totals → Result Unitigs ContractError
case_of (gives t) = Ok (record { labels = t.labels; bases = t.bases })
case_of (refuses r values) =
    let u = error.Unfit in
    Err
    (get_or
    (u ∷ error.UnsupportedK (get_or values 0 0) ∷ u ∷ u ∷ u ∷ u ∷ u ∷ error.FewMarks ∷ error.MissingVertex
    ∷ error.NoRoom
    ∷ u ∷ u ∷ u ∷ u ∷ u ∷ error.WrongCutoff ∷ [])
    r u)

case_back : (a : Result Unitigs ContractError) → case_of (contract_answer a) ≡ a
case_back (Ok u) = refl
case_back (Err (error.UnsupportedK K)) = refl
case_back (Err error.Unfit) = refl
case_back (Err error.WrongCutoff) = refl
case_back (Err error.FewMarks) = refl
case_back (Err error.MissingVertex) = refl
case_back (Err error.NoRoom) = refl

pub contract_inj : (a b : Result Unitigs ContractError) → contract_answer a ≡ contract_answer b → a ≡ b
contract_inj a b e = sym (case_back a) ∙ ap case_of e ∙ case_back b

pub contracts_one :
    (r s : Result Unitigs ContractError) {labels labels' starts starts' lengths lengths' marks marks' : List ℕ}
    {c : Contracted}
    → Contracts r labels starts lengths marks c → Contracts s labels' starts' lengths' marks' c
    → (r ≡ s) × (labels ≡ labels') × (starts ≡ starts') × (lengths ≡ lengths') × (marks ≡ marks')
contracts_one r s t u = (
  contract_inj r s (t.answer ∙ sym u.answer),
  t.labels_after ∙ sym u.labels_after,
  t.starts_after ∙ sym u.starts_after,
  t.lengths_after ∙ sym u.lengths_after,
  t.marks_after ∙ sym u.marks_after,
)

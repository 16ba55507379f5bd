-- A grown table is fixed by its labels, in whatever slices it stands, and contraction sees the table alone. Assumes nothing.
use mathlib.Core.Path.{◌≡◌, refl, sym, ap, ◌∙◌}
use mathlib.Core.Bool.{true}
use mathlib.Core.List.{List}
use Prim.Native.Nat.{ℕ}
use lib.ListN.{length}
use Rattle.state.specs.Counted.{Kind, answers_for}
use Rattle.graph.specs.Table.{Table, table_of, keys_of, fit_for}
use Rattle.graph.specs.Sightings.{Rule}
use Rattle.graph.specs.Adding.{added}
use Rattle.graph.specs.Contraction.{ends_in, written, finish, contract}
use Rattle.graph.proofs.Accepted.{fit_length, accepted}
use Rattle.laws.specs.Grown.{Grown, fresh, accepts, moves, grown_table}
use Rattle.laws.proofs.Keys.{grown_fit}

module _ {κ : Kind} {rule : Rule} {K : ℕ} where
  pub grown_table_lem : {ls : List (List ℕ)} {n : ℕ} {keys counts : List ℕ} → Grown κ rule K ls n keys counts
      → table_of n keys counts ≡ grown_table κ rule K ls
  unfolding keys_of grown_table
  grown_table_lem (fresh keys counts) = refl
  grown_table_lem (accepts {n = n} {keys = keys} {counts = counts} g l e h) =
      (accepted κ rule K n keys counts l e h).table ∙ ap (added κ rule K l) (grown_table_lem g)
  grown_table_lem (moves g keys' counts' e) = e ∙ grown_table_lem g

  -- Two that the same labels have grown.
  pub grown_same : {ls : List (List ℕ)} {n n' : ℕ} {keys counts keys' counts' : List ℕ}
      → Grown κ rule K ls n keys counts → Grown κ rule K ls n' keys' counts'
      → (n' ≡ n) × (table_of n' keys' counts' ≡ table_of n keys counts)
  grown_same {n = n} {n' = n'} {keys = keys} {counts = counts} {keys' = keys'} {counts' = counts'} g h =
      let e : table_of n' keys' counts' ≡ table_of n keys counts = grown_table_lem h ∙ sym (grown_table_lem g) in (
        sym (fit_length K n' keys' counts' (grown_fit h)) ∙ ap (λ (t : Table). length t.keys) e ∙ fit_length K n keys counts (grown_fit g),
        e,
      )

-- Tables of two kinds with the same keys and the same edges, contracted.
pub contract_alike : (κ μ : Kind) (K cutoff n : ℕ) (keys counts keys' counts' labels starts lengths marks : List ℕ)
    → fit_for κ K n keys counts ≡ true → fit_for μ K n keys' counts' ≡ true → answers_for κ cutoff ≡ answers_for μ cutoff
    → keys_of n keys ≡ keys_of n keys' → ends_in κ cutoff (table_of n keys counts) ≡ ends_in μ cutoff (table_of n keys' counts')
    → contract κ K cutoff n keys counts labels starts lengths marks ≡ contract μ K cutoff n keys' counts' labels starts lengths marks
unfolding contract finish written
contract_alike κ μ K cutoff n keys counts keys' counts' labels starts lengths marks f f' a ks es = rw (f, f', a, es, ks)

-- Two slices that hold the same vertices, contracted.
pub contract_same : (κ : Kind) (K cutoff n : ℕ) (keys counts keys' counts' labels starts lengths marks : List ℕ)
    → fit_for κ K n keys counts ≡ true → fit_for κ K n keys' counts' ≡ true → table_of n keys' counts' ≡ table_of n keys counts
    → contract κ K cutoff n keys' counts' labels starts lengths marks ≡ contract κ K cutoff n keys counts labels starts lengths marks
contract_same κ K cutoff n keys counts keys' counts' labels starts lengths marks f f' e =
    contract_alike κ κ K cutoff n keys' counts' keys counts labels starts lengths marks f' f refl (ap (λ (t : Table). t.keys) e) (ap (ends_in κ cutoff) e)

-- Tables of two kinds that the same labels have grown: their keys are the same, and so is all that contraction gives at a cutoff up to both
-- tops for which both kinds answer. Assumes nothing.
use mathlib.Core.Path.{◌≡◌, refl, sym, ap, ap₂, ◌∙◌, subst}
use mathlib.Core.Bool.{true}
use mathlib.Core.List.{List, [], ◌∷◌, map}
use Prim.Native.Nat.{ℕ, suc, ◌≤◌, ◌<◌, min}
use native.Mathlib.Omega.{arith}
use lib.Dec.{leb}
use lib.ListN.{length, take, get_or, length-take}
use lib.Seq.{get_or-take}
use Rattle.state.specs.Counted.{Kind, four_bits, presence, top, answers_for, count}
use Rattle.state.specs.declared.Side.TheVariants.{Front, Back}
use Rattle.state.proofs.AnyKind.{reached_alike, edge_alike}
use Rattle.graph.specs.Table.{table_of, keys_of}
use Rattle.graph.specs.Sightings.{Rule}
use Rattle.graph.specs.Walks.{Ends, ends_of}
use Rattle.graph.specs.Contraction.{ends_in, contract}
use Rattle.graph.proofs.Alike.{same_keys}
use Rattle.graph.proofs.Accepted.{fit_room, fit_length, fit_sound}
use Rattle.laws.specs.Grown.{Grown, sighted_in}
use Rattle.laws.proofs.Keys.{grown_fit, grown_fit_for, grown_keys}
use Rattle.laws.proofs.Counts.{grown_counts_at}
use Rattle.laws.proofs.Tables.{contract_alike}

-- ---- the same keys, and the same edges

map_alike : (f g : ℕ → Ends) (l m : List ℕ) → length l ≡ length m → ((i : ℕ) → i < length l → f (get_or l i 0) ≡ g (get_or m i 0))
    → map f l ≡ map g m
map_alike f g [] [] e h = refl
map_alike f g [] (y ∷ m) e h = absurd (omega arith)
map_alike f g (x ∷ l) [] e h = absurd (omega arith)
map_alike f g (x ∷ l) (y ∷ m) e h =
    ap₂ (λ (a : Ends) (r : List Ends). a ∷ r) (h 0 (omega arith)) (map_alike f g l m (omega arith) (λ i l. h (suc i) (omega arith)))

module _ {κ μ : Kind} {rule : Rule} {K : ℕ} {ls : List (List ℕ)} {n m : ℕ} {keys counts keys' counts' : List ℕ}
    (g : Grown κ rule K ls n keys counts) (h : Grown μ rule K ls m keys' counts') where
  pub keys_alike : keys_of n keys ≡ keys_of m keys'
  keys_alike =
      same_keys K 0 0 (keys_of n keys) (keys_of m keys') (fit_sound K n keys counts (grown_fit g)).fits
      (fit_sound K m keys' counts' (grown_fit h)).fits (λ y. grown_keys g y ∙ sym (grown_keys h y))

  pub number_alike : n ≡ m
  number_alike =
      sym (fit_length K n keys counts (grown_fit g)) ∙ ap length keys_alike ∙ fit_length K m keys' counts' (grown_fit h)

  module _ (cutoff : ℕ) (low : cutoff ≤ top κ) (low' : cutoff ≤ top μ) where
    reached : (v : ℕ) → v < n → (j : ℕ) → leb cutoff (count κ (get_or counts v 0) j) ≡ leb cutoff (count μ (get_or counts' v 0) j)
    reached v l j =
        let e = keys_alike in
        let a = grown_counts_at g v j l in
        let b = grown_counts_at h v j (omega (arith, number_alike)) in
        let x : ℕ = sighted_in rule K ls (get_or (keys_of m keys') v 0) j in
        ap (leb cutoff) (a ∙ ap (λ (ks : List ℕ). min (top κ) (sighted_in rule K ls (get_or ks v 0) j)) e)
        ∙ reached_alike (top κ) (top μ) cutoff x low low' ∙ ap (leb cutoff) (sym b)

    pub ends_alike : ends_in κ cutoff (table_of n keys counts) ≡ ends_in μ cutoff (table_of m keys' counts')
    unfolding ends_in
    ends_alike =
        let a = fit_room K n keys counts (grown_fit g) in
        let b = fit_room K m keys' counts' (grown_fit h) in
        map_alike (ends_of κ cutoff) (ends_of μ cutoff) (take n counts) (take m counts')
        (omega (arith, number_alike, length-take n counts, length-take m counts'))
        (λ v l.
        let k : v < n = omega (arith, length-take n counts) in
        let k' : v < m = omega (arith, number_alike) in
        let r = reached v k in
        rw (get_or-take n counts v 0 k, get_or-take m counts' v 0 k')
        (ap₂ (λ (f b : ℕ). record { front = f; back = b })
        (edge_alike κ μ cutoff (get_or counts v 0) (get_or counts' v 0) Front r) (edge_alike κ μ cutoff (get_or counts v 0) (get_or counts' v 0) Back r)))

-- ---- the same list

-- The answer, the label bytes, the index and the marks.
pub lists_alike : {κ μ : Kind} {rule : Rule} {K : ℕ} {ls : List (List ℕ)} {n m : ℕ} {keys counts keys' counts' : List ℕ}
    → Grown κ rule K ls n keys counts → Grown μ rule K ls m keys' counts'
    → (cutoff : ℕ) → cutoff ≤ top κ → cutoff ≤ top μ → answers_for κ cutoff ≡ true → answers_for μ cutoff ≡ true
    → (labels starts lengths marks : List ℕ)
    → contract κ K cutoff n keys counts labels starts lengths marks ≡ contract μ K cutoff m keys' counts' labels starts lengths marks
lists_alike {κ} {μ} {rule} {K} {ls} {n} {m} {keys} {counts} {keys'} {counts'} g h cutoff low low' a a' labels starts lengths marks =
    let q : n ≡ m = number_alike g h in
    let h' : Grown μ rule K ls n keys' counts' = subst (λ (i : ℕ). Grown μ rule K ls i keys' counts') (sym q) h in
    contract_alike κ μ K cutoff n keys counts keys' counts' labels starts lengths marks (grown_fit_for g) (grown_fit_for h') (a ∙ sym a')
    (keys_alike g h') (ends_alike g h' cutoff low low')
    ∙ ap (λ (i : ℕ). contract μ K cutoff i keys' counts' labels starts lengths marks) q

-- Counts and presence bits at cutoff 1.
pub presence_lists : {rule : Rule} {K : ℕ} {ls : List (List ℕ)} {n m : ℕ} {keys counts keys' counts' : List ℕ}
    → Grown four_bits rule K ls n keys counts → Grown presence rule K ls m keys' counts' → (labels starts lengths marks : List ℕ)
    → contract four_bits K 1 n keys counts labels starts lengths marks ≡ contract presence K 1 m keys' counts' labels starts lengths marks
presence_lists g h = lists_alike g h 1 (omega arith) (omega arith) refl refl

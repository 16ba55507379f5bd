-- The ends and the visits that marks hold, and what marking a vertex does to them. Assumes nothing.
use mathlib.Core.Path.{◌≡◌, refl, sym, ap, ◌∙◌}
use mathlib.Core.Bool.{true, false}
use mathlib.Core.List.{List, [], ◌∷◌, map}
use Prim.Native.Nat.{ℕ, zero, suc, ◌+◌, ◌/◌, ◌%◌, ◌≤◌, ◌<◌}
use native.Mathlib.Omega.{arith}
use lib.Dec.{eqb}
use lib.ListN.{length, get_or, set, length-map}
use lib.Seq.{get_or-set_same}
use Rattle.lemmas.proofs.Lists.{get_d_map}
use Rattle.state.specs.declared.Side.{Side}
use Rattle.state.specs.declared.Side.TheVariants.{Front, Back}
use Rattle.graph.specs.Walks.{Ends, edge, visited}
use Rattle.marks.specs.Marks.{end_in, ends_marked, ends, visits, marked}

pub edge_is : (ms : List ℕ) (v : ℕ) → v < length ms → (s : Side) → edge (ends ms) v s ≡ end_in (get_or ms v 0) s
unfolding ends
edge_is [] v h s = absurd (omega arith)
edge_is (m ∷ ms) zero h Front = refl
edge_is (m ∷ ms) zero h Back = refl
edge_is (m ∷ ms) (suc v) h s = edge_is ms v (omega arith) s

pub visited_is : (ms : List ℕ) (v : ℕ) → v < length ms → visited (visits ms) v ≡ eqb (get_or ms v 0 / 64) 1
unfolding visits
visited_is ms v h = ap (λ (m : ℕ). eqb m 1) (get_d_map (λ m. m / 64) ms v h)

-- Past the marks there is no edge, and nothing is visited.
pub edge_past : (ms : List ℕ) (v : ℕ) → length ms ≤ v → (s : Side) → edge (ends ms) v s ≡ 5
unfolding ends
edge_past [] v h Front = refl
edge_past [] v h Back = refl
edge_past (m ∷ ms) zero h s = absurd (omega arith)
edge_past (m ∷ ms) (suc v) h s = edge_past ms v (omega arith) s

pub visited_past : (ms : List ℕ) (v : ℕ) → length ms ≤ v → visited (visits ms) v ≡ false
unfolding visits
visited_past [] v h = refl
visited_past (m ∷ ms) zero h = absurd (omega arith)
visited_past (m ∷ ms) (suc v) h = visited_past ms v (omega arith)

pub visits_length : (ms : List ℕ) → length (visits ms) ≡ length ms
unfolding visits
visits_length ms = length-map ms (λ m. m / 64)

-- As many ends, as many marks.
pub ends_length : (ms after : List ℕ) → ends after ≡ ends ms → length after ≡ length ms
unfolding ends
ends_length ms after e = sym (length-map after ends_marked) ∙ ap length e ∙ length-map ms ends_marked

-- Vertex v marked.
abbrev pub marking : List ℕ → ℕ → List ℕ
marking ms v = set ms v (marked (get_or ms v 0))

map_set : {A : Type 0} (f : ℕ → A) (ms : List ℕ) (v x : ℕ) → map f (set ms v x) ≡ set (map f ms) v (f x)
map_set f [] v x = refl
map_set f (m ∷ ms) zero x = refl
map_set f (m ∷ ms) (suc v) x = ap (λ l. f m ∷ l) (map_set f ms v x)

pub visits_marking : (ms : List ℕ) (v : ℕ) → visits (marking ms v) ≡ set (visits ms) v 1
unfolding visits
visits_marking ms v =
    let e : marked (get_or ms v 0) / 64 ≡ 1 = omega arith in
    map_set (λ m. m / 64) ms v (marked (get_or ms v 0)) ∙ ap (set (map (λ m. m / 64) ms) v) e

-- It is visited then.
pub visited_now : (ms : List ℕ) (v : ℕ) → v < length ms → visited (set (visits ms) v 1) v ≡ true
visited_now ms v h = ap (λ (m : ℕ). eqb m 1) (get_or-set_same (visits ms) v 1 0 (omega (arith, visits_length ms)))

pub ends_marking : (ms : List ℕ) (v : ℕ) → ends (marking ms v) ≡ ends ms
unfolding ends
ends_marking [] v = refl
ends_marking (m ∷ ms) zero =
    let f : end_in (marked m) Front ≡ end_in m Front = omega arith in
    let q : marked m / 8 ≡ m % 64 / 8 + 8 = omega arith in
    let b : end_in (marked m) Back ≡ end_in m Back = rw q (omega arith) in
    rw (f, b)
ends_marking (m ∷ ms) (suc v) = ap (λ (es : List Ends). ends_marked m ∷ es) (ends_marking ms v)

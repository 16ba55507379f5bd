-- The first starts of an index that lies within its labels: one for each entry, and which. Assumes nothing.
use Rattle.std.proofs.Common.{◌≡◌, ℕ, zero, suc, ◌<◌, true, List, [], ◌∷◌, map, length, get_or, refl, ap, ◌∙◌, le_of_suc-le-suc, not-suc-le-zero, arith}
use lib.ListN.{length-map}
use Rattle.label_index.specs.Entries.{label_at, listed, within}
use Rattle.label_index.proofs.Entries.{length_listed, listed_at, within_long}
use Rattle.panel.specs.Probes.{first_probe}
use Rattle.panel.specs.Panel.{first_starts}

each_at : (f : List ℕ → ℕ) (ls : List (List ℕ)) (i : ℕ) → i < length ls → get_or (map f ls) i 0 ≡ f (get_or ls i [])
each_at f [] i h = absurd (not-suc-le-zero h)
each_at f (l ∷ ls) zero h = refl
each_at f (l ∷ ls) (suc i) h = each_at f ls i (le_of_suc-le-suc h)

module _ (L least most : ℕ) (labels starts lengths : List ℕ) (count : ℕ)
    (inside : within labels count starts lengths ≡ true) where
  many : length (listed count labels starts lengths) ≡ count
  many =
      let t = within_long labels count starts lengths inside in
      length_listed labels count starts lengths t.0 t.1

  pub starts_number : length (first_starts L least most labels starts lengths count) ≡ count
  starts_number = length-map (listed count labels starts lengths) (first_probe L least most) ∙ many

  pub starts_at : (i : ℕ) → i < count
      → get_or (first_starts L least most labels starts lengths count) i 0
      ≡ first_probe L least most (label_at labels starts lengths i)
  starts_at i h =
      let t = within_long labels count starts lengths inside in
      each_at (first_probe L least most) (listed count labels starts lengths) i (omega (arith, many))
      ∙ ap (first_probe L least most) (listed_at labels count starts lengths t.0 t.1 i h)

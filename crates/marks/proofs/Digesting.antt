-- Each cell of a slice computed from that of another, one after the other. Assumes nothing.
use mathlib.Core.Path.{◌≡◌, sym, ap, ◌∙◌}
use mathlib.Core.List.{List, map}
use Prim.Native.Nat.{ℕ, ◌+◌, ◌≤◌, ◌<◌, min}
use native.Mathlib.Omega.{arith}
use lib.ListN.{length, get_or, take, set, length-map, length-take}
use lib.Seq.{get_or-take}
use Rattle.lemmas.proofs.Building.{Built, built_more, built_all}
use Rattle.lemmas.proofs.Lists.{get_d_map}
use Rattle.dna.specs.Text.{over}
use Rattle.dna.proofs.Overwriting.{over_all}

-- Cells computed from those of another slice, as many as both have.
module _ (f : ℕ → ℕ) (ws slice₀ : List ℕ) where
  abbrev first : List ℕ
  first = map f (take (length slice₀) ws)

  length_first : length first ≡ min (length slice₀) (length ws)
  length_first = length-map (take (length slice₀) ws) f ∙ length-take (length slice₀) ws

  -- No cell is left as it was if the other slice is as long.
  pub first_whole : length slice₀ ≤ length ws → over first slice₀ ≡ first
  first_whole h = over_all first slice₀ (omega (arith, length_first))

  module _ (slice : List ℕ) (i : ℕ) (b : Built first slice₀ slice i) where
    pub first_more : (v : ℕ) → i < length slice₀ → i < length ws → v ≡ f (get_or ws i 0)
        → Built first slice₀ (set slice i v) (i + 1)
    first_more v h k e =
        let l : i < length (take (length slice₀) ws) = omega (arith, length-take (length slice₀) ws) in
        built_more first slice₀ slice i b v (omega (arith, length_first)) h
        (e ∙ sym (get_d_map f (take (length slice₀) ws) i l ∙ ap f (get_or-take (length slice₀) ws i 0 h)))

    pub first_all : min (length slice₀) (length ws) ≤ i → slice ≡ over first slice₀
    first_all h = built_all first slice₀ slice i b (omega (arith, length_first))

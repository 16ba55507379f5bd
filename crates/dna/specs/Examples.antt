-- The least start, computed: 0 for lengths 0 and 1, and the smallest where several rotations are least. Assumes
-- nothing.
use Prim.Native.String.{String}
use Rattle.std.specs.Prelude.{◌≡◌, refl, [], ◌∷◌, map}
use Rattle.dna.specs.Text.{bytes}
use Rattle.dna.specs.Order.{least_start, open_order}

pub starts :
    map (λ (s : String). least_start (bytes s)) ("" ∷ "T" ∷ "AAAA" ∷ "CACA" ∷ "TTA" ∷ "GATTACAGATTACA" ∷ [])
    ≡ 0 ∷ 0 ∷ 0 ∷ 1 ∷ 2 ∷ 4 ∷ []
unfolding open_order
starts = refl

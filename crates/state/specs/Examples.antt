-- A word of presence bits, computed: where its bits stand, which words are fit, which cutoffs it answers for. Assumes
-- nothing.
use Rattle.std.specs.Prelude.{ℕ, ◌≡◌, refl, Bool, true, false, [], ◌∷◌, map, replicate}
use Rattle.dna.specs.Answer.{gives, refuses}
use Rattle.state.specs.Counted.{four_bits, presence, answers_for, word_fits, edge_at, edge_count, is_isolated}
use Rattle.state.specs.Counted.{at_cutoff, add_edge_call, update_call, open_counted}
use Rattle.state.specs.declared.Side.TheVariants.{Front, Back}

-- Front's C is bit 4 and Back's T bit 10; a bit that is set stays; N and E are refused, E as a missing neighbour is
-- not.
pub marked : (add_edge_call presence 0 Front 1 ≡ gives 0x010) × (add_edge_call presence 0x010 Back 3 ≡ gives 0x410)
    × (add_edge_call presence 0x410 Front 1 ≡ gives 0x410)
    × (add_edge_call presence 0 Front 4 ≡ refuses 10 []) × (add_edge_call presence 0 Front 5 ≡ refuses 10 [])
    × (update_call presence 0 5 2 ≡ gives 0x200) × (update_call presence 0 0 4 ≡ refuses 10 [])
unfolding open_counted
marked = (refl, refl, refl, refl, refl, refl, refl)

-- Front has C alone, Back both G and T.
pub asked : (edge_at presence 1 0x610 Front ≡ 1) × (edge_at presence 1 0x610 Back ≡ 4)
    × (edge_at presence 1 0 Front ≡ 5) × (edge_count presence 1 0x610 Back ≡ 2)
    × (is_isolated presence 1 0x610 ≡ false) × (is_isolated presence 1 0 ≡ true)
unfolding open_counted
asked = (refl, refl, refl, refl, refl, refl)

-- The eight bits and no other may be set in presence bits; of counters every bit of 32.
abbrev fits_presence : ℕ → Bool
fits_presence w = word_fits presence w

pub words_fit_lem : (map fits_presence (0x000 ∷ 0x008 ∷ 0x400 ∷ 0x7f8 ∷ []) ≡ replicate 4 true)
    × (map fits_presence (0x001 ∷ 0x004 ∷ 0x800 ∷ 0x8000_0000 ∷ []) ≡ replicate 4 false)
    × (word_fits four_bits 0xffff_ffff ≡ true)
words_fit_lem = (refl, refl, refl)

-- Presence bits answer for cutoff 1, counters for every one.
pub cutoffs : (map (answers_for presence) (0 ∷ 1 ∷ 2 ∷ 16 ∷ []) ≡ false ∷ true ∷ false ∷ false ∷ [])
    × (map (answers_for four_bits) (0 ∷ 1 ∷ 2 ∷ 16 ∷ []) ≡ replicate 4 true)
    × (at_cutoff {A = ℕ} presence 0 5 ≡ refuses 15 []) × (at_cutoff {A = ℕ} presence 1 5 ≡ gives 5)
cutoffs = (refl, refl, refl, refl)

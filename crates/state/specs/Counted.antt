-- Eight counters in one word, Front A, C, G, T and then Back A, C, G, T, of whatever kind, and what is asked of them.
-- Assumes nothing.
use Rattle.std.specs.Prelude.{ℕ, zero, suc, ◌+◌, ◌-◌, ◌*◌, ◌/◌, ◌%◌, ◌^◌}
use Rattle.std.specs.Prelude.{Bool, true, false, cond, ◌&&◌, ◌||◌, List, [], ◌∷◌, ltb, leb, eqb, length}
use Rattle.std.specs.Bool.{beq}
use Rattle.dna.specs.Answer.{Answer, gives, refuses}
use Rattle.state.specs.declared.Side.{Side}
use Rattle.state.specs.declared.Side.TheVariants.{Front, Back}

-- A kind of counters: how many bits each has, and the bit at which the first starts.
pub record Kind : Type 0 where
  pub width : ℕ
  pub first : ℕ

-- Four bits each, from bit 0 on.
abbrev pub four_bits : Kind
four_bits = record { width = 4; first = 0 }

-- Presence bits: one each, from bit 3 on.
abbrev pub presence : Kind
presence = record { width = 1; first = 3 }

-- A counter stops at its top.
abbrev pub top : Kind → ℕ
top κ = 2 ^ κ.width - 1

-- Whether a kind answers for a cutoff: counters for each, a single bit, which only tells that an edge was seen, for 1.
abbrev pub answers_for : Kind → ℕ → Bool
answers_for κ cutoff = ltb 1 κ.width || eqb cutoff 1

abbrev pub opposite : Side → Side
opposite Front = Back
opposite Back = Front

abbrev pub is_back : Side → Bool
is_back Front = false
is_back Back = true

abbrev pub same_side : Side → Side → Bool
same_side s t = beq (is_back s) (is_back t)

-- The number of a side's and base's counter, from 0 to 7.
abbrev pub slot_of : Side → ℕ → ℕ
slot_of Front b = b
slot_of Back b = 4 + b

-- The word in which counter j is 1 and the others are 0.
abbrev pub unit : Kind → ℕ → ℕ
unit κ j = 2 ^ (κ.first + κ.width * j)

-- A word without a bit outside its eight counters.
abbrev pub word_fits : Kind → ℕ → Bool
word_fits κ w = eqb (w % unit κ 0) 0 && ltb w (unit κ 8)

-- The count that a word holds in counter j.
unfoldable pub count : Kind → ℕ → ℕ → ℕ
count κ w j = w / unit κ j % 2 ^ κ.width

-- A word with counter j one higher, unless it stands at its top.
unfoldable pub raise : Kind → ℕ → ℕ → ℕ
raise κ w j = cond (eqb (count κ w j) (top κ)) w (w + unit κ j)

-- The retained ones of m bases from b on: those whose count on a side is at least the cutoff.
unfoldable pub retained : Kind → ℕ → ℕ → Side → ℕ → ℕ → List ℕ
retained κ cutoff w s zero b = []
retained κ cutoff w s (suc m) b =
    let rest = retained κ cutoff w s m (suc b) in
    cond (leb cutoff (count κ w (slot_of s b))) (b ∷ rest) rest

-- E for no base, the base for one, N for more.
unfoldable pub single : List ℕ → ℕ
single [] = 5
single (b ∷ []) = b
single (b ∷ c ∷ r) = 4

-- The one edge that a side retains; E where it retains none, N where it retains more.
unfoldable pub edge_at : Kind → ℕ → ℕ → Side → ℕ
edge_at κ cutoff w s = single (retained κ cutoff w s 4 0)

-- How many edges a side retains.
unfoldable pub edge_count : Kind → ℕ → ℕ → Side → ℕ
edge_count κ cutoff w s = length (retained κ cutoff w s 4 0)

-- A side retains more than one edge.
abbrev pub is_branching : Kind → ℕ → ℕ → Side → Bool
is_branching κ cutoff w s = ltb 1 (edge_count κ cutoff w s)

-- A side retains no edge.
abbrev pub is_empty : Kind → ℕ → ℕ → Side → Bool
is_empty κ cutoff w s = eqb (edge_count κ cutoff w s) 0

-- Isolated: no retained edge on either side.
abbrev pub is_isolated : Kind → ℕ → ℕ → Bool
is_isolated κ cutoff w = is_empty κ cutoff w Front && is_empty κ cutoff w Back

-- What is asked at a cutoff; 15 where the kind does not answer for it.
abbrev pub at_cutoff : {A : Type 0} → Kind → ℕ → A → Answer A
at_cutoff κ cutoff a = cond (answers_for κ cutoff) (gives a) (refuses 15 [])

-- A side's count of a base; 10 for what is no base.
abbrev pub frequency_call : Kind → ℕ → Side → ℕ → Answer ℕ
frequency_call κ w s b = cond (ltb b 4) (gives (count κ w (slot_of s b))) (refuses 10 [])

-- One edge counted; 10 for N and E.
abbrev pub add_edge_call : Kind → ℕ → Side → ℕ → Answer ℕ
add_edge_call κ w s b = cond (ltb b 4) (gives (raise κ w (slot_of s b))) (refuses 10 [])

-- A neighbour counted on its side. E is a missing one and adds nothing; nor does N, which `update_call` refuses.
abbrev pub counted : Kind → ℕ → Side → ℕ → ℕ
counted κ w s b = cond (ltb b 4) (raise κ w (slot_of s b)) w

-- Both neighbours counted; 10 for N.
abbrev pub update_call : Kind → ℕ → ℕ → ℕ → Answer ℕ
update_call κ w front back =
    cond (eqb front 4 || eqb back 4) (refuses 10 []) (gives (counted κ (counted κ w Front front) Back back))

-- Opens this file's definitions to a proof that computes.
unfoldable pub open_counted : Unit {0}
unfolding count raise retained single edge_at edge_count
open_counted = tt

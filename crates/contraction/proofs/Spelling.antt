-- The letters of a walk's bases, written one by one from a place of the buffer on. Assumes nothing.
use mathlib.Core.Path.{◌≡◌, sym, ap, ◌∙◌}
use mathlib.Core.List.{List, map}
use Prim.Native.Nat.{ℕ, suc, ◌+◌, ◌≤◌, ◌<◌}
use native.Mathlib.Omega.{arith}
use lib.ListN.{length, get_or, set, length-map}
use lib.Seq.{paste, paste-zero, paste-suc, length-paste}
use Rattle.dna.specs.Letters.{letter_of}
use Rattle.lemmas.proofs.Lists.{get_d_map}
use Rattle.state.specs.declared.Side.{Side}
use Rattle.contraction.specs.Over.{walk_in}
use Rattle.contraction.specs.Says.{Walks, Spells}
use Rattle.contraction.specs.declared.Walked.{Walked}

-- The first j letters of bs stand in the buffer.
pub record Spelling (bs buffer : List ℕ) (at j : ℕ) (now : List ℕ) : Type 0 where
  pub room : at + length bs ≤ length buffer
  pub pasted : now ≡ paste buffer at (map letter_of bs) j

pub spelling_start : (bs buffer : List ℕ) (at : ℕ) → at + length bs ≤ length buffer → Spelling bs buffer at 0 buffer
spelling_start bs buffer at h = record { room = h; pasted = paste-zero buffer at (map letter_of bs) }

module _ {bs buffer : List ℕ} {at j : ℕ} {now : List ℕ} (g : Spelling bs buffer at j now) where
  pub spelling_length : j ≤ length bs → length now ≡ length buffer
  spelling_length h =
      ap length g.pasted
      ∙ length-paste buffer at (map letter_of bs) j (omega (arith, g.room)) (omega (arith, length-map bs letter_of))

  pub spelling_next : j < length bs → {b x : ℕ} → get_or bs j 0 ≡ b → x ≡ letter_of b
      → Spelling bs buffer at (j + 1) (set now (at + j) x)
  spelling_next h {b} {x} eb ex =
      let n : j + 1 ≡ suc j = omega arith in
      let v : x ≡ get_or (map letter_of bs) j 0 = ex ∙ ap letter_of (sym eb) ∙ sym (get_d_map letter_of bs j h) in
      record {
        room = g.room;
        pasted =
            rw (n, g.pasted, v)
            (paste-suc buffer at (map letter_of bs) j 0 (omega (arith, g.room))
            (omega (arith, length-map bs letter_of)));
      }

-- At the walk's end all of them do.
pub spelling_ends : {K : ℕ} {keys ms : List ℕ} {a : ℕ} {start : Side} {r : Walked} {after : List ℕ}
    → Walks K keys ms a start r after
    → {buffer now : List ℕ} {at : ℕ} → Spelling (walk_in K keys ms a start).bases buffer at r.bases now
    → Spells K keys ms a start r after buffer at now
spelling_ends {K} {keys} {ms} {a} {start} w {buffer} {at = at} g =
    record {
      walks = w;
      letters = g.pasted ∙ ap (paste buffer at (map letter_of (walk_in K keys ms a start).bases))
          w.bases;
    }

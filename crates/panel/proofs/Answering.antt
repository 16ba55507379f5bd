-- The starts written so far: none, one more, all. Assumes nothing.
use Rattle.std.proofs.Common.{◌≡◌, ℕ, ◌+◌, ◌-◌, ◌<◌, ◌≤◌, true, List, length, get_or, take, drop, set, refl, ◌∙◌, arith, length-set}
use Rattle.lemmas.proofs.Building.{Built, built_none, built_more, built_all}
use Rattle.dna.specs.Text.{over}
use Rattle.label_index.specs.Entries.{within}
use Rattle.label_index.proofs.Entries.{within_long, within_at}
use Rattle.panel.specs.Probes.{first_probe}
use Rattle.panel.specs.Panel.{first_starts}
use Rattle.panel.proofs.Listed.{starts_number, starts_at}

-- The slice has the answers for the first i labels.
pub record Answering (L least most : ℕ) (labels starts lengths : List ℕ) (count : ℕ) (out₀ out : List ℕ) (i : ℕ) :
    Type 0 where
  pub some : 0 < L
  pub order : least ≤ most
  pub inside : within labels count starts lengths ≡ true
  pub there : (count ≤ length starts) × (count ≤ length lengths)
  pub room : count ≤ length out₀
  pub passed : i ≤ count
  pub cells : Built (first_starts L least most labels starts lengths count) out₀ out i
  pub long : length out ≡ length out₀

module _ (L least most : ℕ) (labels starts lengths : List ℕ) (count : ℕ) (out₀ : List ℕ) where
  pub answering_none : 0 < L → least ≤ most → within labels count starts lengths ≡ true → count ≤ length out₀
      → Answering L least most labels starts lengths count out₀ out₀ 0
  answering_none p o w r = record {
    some = p;
    order = o;
    inside = w;
    there = within_long labels count starts lengths w;
    room = r;
    passed = omega arith;
    cells = built_none (first_starts L least most labels starts lengths count) out₀;
    long = refl;
  }

module _ {L least most : ℕ} {labels starts lengths : List ℕ} {count : ℕ} {out₀ out : List ℕ} {i : ℕ}
    (a : Answering L least most labels starts lengths count out₀ out i) where
  abbrev all : List ℕ
  all = first_starts L least most labels starts lengths count

  number : length all ≡ count
  number = starts_number L least most labels starts lengths count a.inside

  -- The next label lies within the labels, and there is room for its answer.
  pub next_fits : i < count → (get_or starts i 0 + get_or lengths i 0 ≤ length labels) × (i < length out)
  next_fits h = (within_at labels count starts lengths a.inside i h, omega (arith, a.room, a.long))

  pub answering_more : i < count → (start end v : ℕ) → start ≡ get_or starts i 0 → end - start ≡ get_or lengths i 0
      → v ≡ first_probe L least most (take (end - start) (drop start labels))
      → Answering L least most labels starts lengths count out₀ (set out i v) (i + 1)
  answering_more h start end v es en e =
      let at = starts_at L least most labels starts lengths count a.inside i h in
      let w : v ≡ get_or all i 0 = e ∙ rw (en, es, at) in
      record {
        some = a.some;
        order = a.order;
        inside = a.inside;
        there = a.there;
        room = a.room;
        passed = omega arith;
        cells = built_more all out₀ out i a.cells v (omega (arith, number)) (omega (arith, a.room)) w;
        long = length-set out i v ∙ a.long;
      }

  pub answering_all : count ≤ i → out ≡ over all out₀
  answering_all h = built_all all out₀ out i a.cells (omega (arith, number))

-- A text read eight letters at a time: the words that hold what was read, and what was strange in it. Assumes nothing.
use mathlib.Core.Path.{◌≡◌, sym, ap, ◌∙◌}
use mathlib.Core.List.{List, [], ◌∷◌}
use Prim.Native.Nat.{ℕ, ◌+◌, ◌-◌, ◌*◌, ◌/◌, ◌%◌, ◌^◌, ◌<◌, ◌≤◌}
use native.Mathlib.Nat.{lt_of_lt_of_le, mod-lt}
use native.Mathlib.Omega.{arith}
use lib.Bits.{bit_or, and_le_l, and_le_r, or_add_and, or_lt}
use lib.ListN.{length, take, drop, length-drop}
use lib.Pow.{pow_pos, pow_mono, shr_lt}
use lib.Seq.{take-add, take-take, length-take-le}
use Rattle.lemmas.proofs.Numbers.{div_is}
use Rattle.dna.specs.Letters.{first_bad}
use Rattle.kmer.specs.Kmer.{joined}
use Rattle.kmer.specs.Packing.{valid_packed, bytes_in, Packs}
use Rattle.kmer.proofs.Wide.{four, high_of, two_words}
use Rattle.kmer.proofs.Moves.{up_eight}
use Rattle.kmer.proofs.Windows.{Bases, bases_take, bases_append}
use Rattle.kmer.proofs.Testing.{no_bad, no_bad_bases}
use Rattle.kmer.proofs.Packing.{valid_append, valid_lt, word_lt}

-- The first i letters are held, and `found` is 0 only where they are bases.
pub record Held (s : List ℕ) (i lo hi found : ℕ) : Type 0 where
  pub fits : lo < 2 ^ 64
  pub value : joined lo hi ≡ valid_packed (take i s)
  pub clean : found ≡ 0 → Bases (take i s)

-- A word of eight letters from place i on, their codes, and what is strange in them.
pub record Eight (s : List ℕ) (i x codes found : ℕ) : Type 0 where
  pub bytes : bytes_in 8 x ≡ take 8 (drop i s)
  pub packed : codes ≡ valid_packed (bytes_in 8 x)
  pub clean : found ≡ 0 → first_bad 0 (bytes_in 8 x) ≡ []

module _ {s : List ℕ} {i x codes found : ℕ} (e : Eight s i x codes found) where
  eight_codes : codes ≡ valid_packed (take 8 (drop i s))
  eight_codes = e.packed ∙ ap valid_packed e.bytes

  eight_bases : found ≡ 0 → Bases (take 8 (drop i s))
  eight_bases z = rw e.bytes at (no_bad_bases 0 (bytes_in 8 x) (e.clean z))

or_zero : (a b : ℕ) → bit_or a b ≡ 0 → (a ≡ 0) × (b ≡ 0)
or_zero a b h = (omega (arith, or_add_and a b, and_le_r a b), omega (arith, or_add_and a b, and_le_l a b))

-- Of the first eight letters, the first n.
pub held_first : (s : List ℕ) (n : ℕ) {x codes found : ℕ} → Eight s 0 x codes found → n ≤ 8 → 8 ≤ length s →
    Held s n (codes / 2 ^ (16 - 2 * n)) 0 found
held_first s n {x} {codes} {found} e h l =
    let m : n + (8 - n) ≡ 8 = omega arith in
    let rest : List ℕ = take (8 - n) (drop n s) in
    let d : 8 - n ≤ length (drop n s) = simp length-drop (omega arith) in
    let long : length (take (8 - n) (drop n s)) ≡ 8 - n = length-take-le (8 - n) (drop n s) d in
    let few : length (take n s) ≡ n = length-take-le n s (omega arith) in
    let p : 4 ^ length (take (8 - n) (drop n s)) ≡ 2 ^ (16 - 2 * n) =
    ap (λ (k : ℕ). 4 ^ k) long ∙ four (8 - n) ∙ ap (λ (k : ℕ). 2 ^ k) (omega arith) in
    let both : codes ≡ valid_packed (take n s) * 2 ^ (16 - 2 * n) + valid_packed rest =
    eight_codes e ∙ ap valid_packed (rw m at (take-add n (8 - n) s)) ∙ valid_append (take n s) rest
    ∙ ap (λ (k : ℕ). valid_packed (take n s) * k + valid_packed rest) p in
    let q : codes / 2 ^ (16 - 2 * n) ≡ valid_packed (take n s) =
    div_is codes (2 ^ (16 - 2 * n)) (valid_packed (take n s)) (valid_packed rest) both (rw p at (valid_lt rest)) in
    record {
      fits = rw q (word_lt (take n s) (omega arith));
      value = omega arith;
      clean = λ z. rw (take-take n 8 s h) at (bases_take n (take 8 s) (eight_bases e z));
    }

module _ (s : List ℕ) (i lo hi found : ℕ) (held : Held s i lo hi found) where
  -- Eight letters more.
  pub held_next : {y codes found₁ : ℕ} → Eight s i y codes found₁ → i + 8 ≤ 63 → i + 8 ≤ length s →
      Held s (i + 8) (bit_or ((lo * 2 ^ 16) % 2 ^ 64) codes) (bit_or ((hi * 2 ^ 16) % 2 ^ 64) (lo / 2 ^ 48))
      (bit_or found found₁)
  held_next {y} {codes} {found₁} e k h =
      let behind : List ℕ = take 8 (drop i s) in
      let long : length (take 8 (drop i s)) ≡ 8 = length-take-le 8 (drop i s) (simp length-drop (omega arith)) in
      let c : codes < 2 ^ 16 = rw (sym (eight_codes e), long) at (valid_lt (take 8 (drop i s))) in
      let n : length (take i s) ≡ i = length-take-le i s (omega arith) in
      let bits : 2 * i ≤ 48 + 64 = omega arith in
      let small : joined lo hi < 2 ^ (48 + 64) =
      rw held.value (lt_of_lt_of_le (rw (n, four i) at (valid_lt (take i s))) (pow_mono bits)) in
      let room : hi < 2 ^ 48 = rw (high_of lo hi held.fits) at (shr_lt 48 64 small) in
      let more : valid_packed (take (i + 8) s) ≡ joined lo hi * 2 ^ 16 + codes =
      ap valid_packed (take-add i 8 s) ∙ valid_append (take i s) behind
      ∙ rw (long, sym (eight_codes e), sym held.value) in
      record {
        fits = or_lt 64 ((lo * 2 ^ 16) % 2 ^ 64) codes (mod-lt (lo * 2 ^ 16) (pow_pos 64)) (omega arith);
        value = up_eight lo hi codes held.fits room c ∙ sym more;
        clean = λ z.
            let o = or_zero found found₁ z in
            rw (take-add i 8 s) (bases_append (take i s) behind (held.clean o.0) (eight_bases e o.1));
      }

  -- All of them.
  pub held_all : (k : ℕ) → i ≡ k → Packs (take k s) (record { kmer = record { words = lo ∷ hi ∷ [] }; strange = found })
  held_all k e =
      let t = rw e at held in
      record {
        kmer = sym (two_words (valid_packed (take k s)) lo hi (sym t.value) t.fits);
        clean = λ z. no_bad 0 (take k s) (t.clean z);
      }

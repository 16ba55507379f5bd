-- For callers: what the calls that make a k-mer, and the one that writes its letters, return where nothing is refused.
-- Assumes nothing.
use mathlib.Core.Path.{◌≡◌, ap, ◌∙◌}
use mathlib.Core.Bool.{true, false}
use mathlib.Core.List.{List}
use Prim.Native.Nat.{ℕ, ◌^◌, ◌<◌, ◌≤◌}
use lib.Dec.{ltb}
use lib.ListN.{length, take}
use borrow.Author.Tests.{lt-ltb, le-ltb}
use Rattle.std.proofs.Common.{Result, Ok}
use Rattle.dna.specs.Answer.{Answer, gives}
use Rattle.dna.specs.Text.{over}
use Rattle.kmer.specs.Kmer.{ok_k, packed, letters}
use Rattle.kmer.specs.Calls.{on_kmer, below, with_letters, pack_bases, pack_call, letters_call}
use Rattle.kmer.specs.Says.{kmer_of, Answers, Spells}
use Rattle.kmer.specs.declared.Kmer.{Kmer}
use Rattle.kmer.specs.declared.KmerError.{KmerError}
use Rattle.kmer.proofs.Spelling.{length_letters}
use Rattle.kmer.proofs.Windows.{Bases}
use Rattle.kmer.proofs.Testing.{no_bad}
use Rattle.kmer.proofs.Telling.{returned, kmer_told, told}

-- `from_ascii`.
pub packs_given : {r : Result Kmer KmerError} (K : ℕ) (s : List ℕ) → ok_k K ≡ true → K ≤ length s → Bases (take K s) →
    Answers r (pack_call K s) →
    r ≡ Ok (kmer_of (packed (take K s)))
unfolding pack_call with_letters pack_bases
packs_given K s ok h b t =
    kmer_told (simp (ok, le-ltb (length s) K h, no_bad 0 (take K s) b) at t)

module _ (K x : ℕ) (ok : ok_k K ≡ true) (h : x < 4 ^ K) where
  -- Neither 1 nor 14.
  fits : {A : Type 0} (a : Answer A) → on_kmer K x a ≡ a
  fits a = simp (ok, lt-ltb x (4 ^ K) h)

  -- `from_words`, `reverse_complement` and `canonical`.
  pub kmer_given : {r : Result Kmer KmerError} (n : ℕ) → Answers r (on_kmer K x (gives n)) → r ≡ Ok (kmer_of n)
  kmer_given n t = kmer_told (rw (fits (gives n)) at t)

  -- The rolls.
  pub roll_given : {r : Result Kmer KmerError} (b n : ℕ) → b < 4 → Answers r (on_kmer K x (below 4 b (gives n)))
      → r ≡ Ok (kmer_of n)
  roll_given b n l t = kmer_given n (simp (lt-ltb b 4 l) at t)

  -- `append_ascii`.
  pub letters_given : (r : Result ℕ KmerError) (out slice : List ℕ) → K ≤ length slice
      → Spells r out (letters_call K x slice) → (r ≡ Ok K) × (out ≡ over (letters K x) slice)
  letters_given r out slice l t =
      let q : ltb (length slice) (length (letters K x)) ≡ false = rw (length_letters K x) (le-ltb (length slice) K l) in
      let e : letters_call K x slice ≡ record { answer = gives (length (letters K x)); slice = over (letters K x) slice } =
      simp (ok, lt-ltb x (4 ^ K) h, q) in
      let u = rw e at t in
      (told r ∙ ap (returned (λ n. n)) (u.answer ∙ ap gives (length_letters K x)), u.slice)

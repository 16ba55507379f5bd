-- A part of a buffer lent and put back: what came back stands pasted in the buffer. Assumes nothing.
use mathlib.Core.Path.{◌≡◌, sym, ap, ◌∙◌}
use mathlib.Core.Bool.{true}
use mathlib.Core.List.{List, append_assoc}
use Prim.Native.Nat.{ℕ, ◌+◌, ◌-◌, ◌^◌, ◌≤◌, ◌<◌}
use native.Mathlib.Omega.{arith}
use lib.ListN.{length, take, drop, length-drop}
use Rattle.std.specs.Prelude.{Result}
use lib.Seq.{paste, drop-drop, take_all, length-take-le}
use borrow.Rule.Slice.PartMut.{mid_of, put_mid, mid_len}
use Rattle.dna.specs.Text.{over, part}
use Rattle.dna.proofs.Overwriting.{over_all}
use Rattle.kmer.specs.Kmer.{ok_k, letters}
use Rattle.kmer.specs.Calls.{letters_call}
use Rattle.kmer.specs.Says.{Spells}
use Rattle.kmer.specs.declared.KmerError.{KmerError}
use Rattle.kmer.proofs.Spelling.{length_letters}
use Rattle.kmer.proofs.Given.{letters_given}

pub part_length : (text : List ℕ) (from n : ℕ) → from + n ≤ length text → length (part text from n) ≡ n
part_length text from n h = length-take-le n (drop from text) (omega (arith, length-drop from text))

-- A part of n cells that came back as a text of n cells.
put_back : (buffer text : List ℕ) (at n : ℕ) → at + n ≤ length buffer → length text ≡ n
    → put_mid at (at + n - at) buffer text ≡ paste buffer at text n
put_back buffer text at n h e =
    let m : at + n - at ≡ n = omega arith in
    let t : take n text ≡ text = take_all n text (omega arith) in
    rw (m, drop-drop n at buffer, t) (sym (append_assoc (take at buffer) text (drop (at + n) buffer)))

-- A part written over by a text of its length.
put_over : (buffer given text : List ℕ) (at n : ℕ) → at + n ≤ length buffer → length text ≡ n
    → given ≡ over text (mid_of at (at + n - at) buffer)
    → put_mid at (at + n - at) buffer given ≡ paste buffer at text n
put_over buffer given text at n h e g =
    let m : at + n - at ≡ n = omega arith in
    let q : given ≡ text = rw m at g ∙ over_all text (part buffer at n) (e ∙ sym (part_length buffer at n h)) in
    ap (put_mid at (at + n - at) buffer) q ∙ put_back buffer text at n h e

-- A k-mer's letters written into a part of as many cells.
pub put_letters : (K x : ℕ) → ok_k K ≡ true → x < 4 ^ K → (buffer : List ℕ) (at : ℕ) → at + K ≤ length buffer
    → (r : Result ℕ KmerError) (given : List ℕ)
    → Spells r given (letters_call K x (mid_of at (at + K - at) buffer))
    → put_mid at (at + K - at) buffer given ≡ paste buffer at (letters K x) K
put_letters K x ok small buffer at h r given t =
    let l : K ≤ length (mid_of at (at + K - at) buffer) = omega (arith, mid_len at (at + K) buffer h) in
    put_over buffer given (letters K x) at K h (length_letters K x)
    (letters_given K x ok small r given (mid_of at (at + K - at) buffer) l t).1

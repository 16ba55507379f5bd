-- How adding a label ends before its k-mers are stored: the refusals 1, 5, 4, a label shorter than K, 3. Assumes
-- nothing.
use mathlib.Core.Path.{◌≡◌, refl, sym, ap, ◌∙◌}
use mathlib.Core.List.{List, []}
use Prim.Native.Nat.{ℕ, ◌≤◌, ◌<◌}
use lib.ListN.{length}
use borrow.Author.Tests.{lt-ltb, le-ltb}
use Rattle.std.specs.Prelude.{Option, Some, None, Result, Ok, Err}
use Rattle.dna.specs.Letters.{first_bad}
use Rattle.kmer.proofs.Bounds.{ok_bounds}
use Rattle.kmer.proofs.Testing.{no_bad_bases}
use Rattle.graph.proofs.Accepted.{fit_for_both}
use Rattle.state.specs.Counted.{Kind}
use Rattle.graph.specs.Sightings.{Rule}
use Rattle.graph.specs.Adding.{Added, add_bases, add_label}
use Rattle.table.specs.Calls.{fit_answer, fit_call}
use Rattle.table.specs.declared.FitError.{FitError}
use Rattle.table.specs.declared.FitError.TheVariants.{Unfit, UnsupportedK}
use Rattle.table.proofs.Told.{told_unsupported, told_unfit}
use Rattle.adding.specs.Says.{add_answer, of_fit, Adds, Ready, Addable, place_in}
use Rattle.adding.specs.declared.Addition.{Addition}
use Rattle.adding.specs.declared.AddError.{AddError}
use Rattle.adding.specs.declared.AddError.TheVariants as add

abbrev whole : Kind → Rule → ℕ → ℕ → List ℕ → List ℕ → List ℕ → Added
whole κ rule K n keys counts label = add_label κ rule K n keys counts label

-- An answer that changes nothing.
stays : {r : Result Addition AddError} {keys counts : List ℕ}
    → Adds r keys counts (record { answer = add_answer r; keys = keys; counts = counts })
stays = record { answer = refl; keys_after = refl; counts_after = refl }

module _ (κ : Kind) (rule : Rule) (K n : ℕ) (keys counts label : List ℕ) where
  -- The table is not fit for it.
  module _ {r : Result (Unit {0}) FitError} (t : fit_answer r ≡ fit_call κ K n keys counts) where
    unsupported : {k : ℕ} → r ≡ Err (UnsupportedK k)
        → Adds (Err (add.UnsupportedK k)) keys counts (whole κ rule K n keys counts label)
    unfolding add_label
    unsupported {k} e =
        let q = told_unsupported κ K n keys counts t e in
        rw (q.0, q.1) stays

    unfit : r ≡ Err Unfit → Adds (Err add.Unfit) keys counts (whole κ rule K n keys counts label)
    unfolding add_label
    unfit e =
        let q = told_unfit κ K n keys counts t e in
        rw (q.0, q.1) stays

    pub not_fit : (e : FitError) → r ≡ Err e → Adds (Err (of_fit e)) keys counts (whole κ rule K n keys counts label)
    not_fit Unfit q = unfit q
    not_fit (UnsupportedK k) q = unsupported q

  module _ (ok : Ready κ K n keys counts) where
    pub too_long : 4096 < length label
        → Adds (Err (add.TooLong (length label))) keys counts (whole κ rule K n keys counts label)
    unfolding add_label
    too_long h = rw (ok.0, ok.1, lt-ltb 4096 (length label) h) stays

    module _ (short : length label ≤ 4096) where
      pub too_short : length label < K
          → Adds (Ok (record { edges = 0; stored = n })) keys counts (whole κ rule K n keys counts label)
      unfolding add_label
      too_short h =
          rw (ok.0, ok.1, le-ltb 4096 (length label) short, lt-ltb (length label) K h) stays

      module _ (long : K ≤ length label) {b : Option (ℕ × ℕ)} (p : place_in b ≡ first_bad 0 label) where
        -- The rest is by the label's first bad place.
        by_place : (z : Option (ℕ × ℕ)) → b ≡ z
            → whole κ rule K n keys counts label ≡ add_bases κ rule K n keys counts label (place_in z)
        unfolding add_label
        by_place z q =
            rw (ok.0, ok.1, le-ltb 4096 (length label) short, le-ltb (length label) K long)
            (ap (add_bases κ rule K n keys counts label) (sym p ∙ ap place_in q))

        pub no_base : {place byte : ℕ} → b ≡ Some (place, byte)
            → Adds (Err (add.InvalidBase place byte)) keys counts (whole κ rule K n keys counts label)
        unfolding add_bases
        no_base {place} {byte} q = rw (by_place (Some (place, byte)) q) stays

        pub addable : b ≡ None → Addable K label n keys counts
        addable q =
            let l = ok_bounds K ok.0 in
            record {
              given = record {
                low = l.0;
                high = l.1;
                long = long;
                short = short;
                bases = no_bad_bases 0 label (sym p ∙ ap place_in q);
              };
              fits = (fit_for_both κ K n keys counts ok.1).0;
            }

        pub of_bases : b ≡ None → {z : Result Addition AddError} {ks cs : List ℕ}
            → Adds z ks cs (add_bases κ rule K n keys counts label [])
            → Adds z ks cs (whole κ rule K n keys counts label)
        of_bases q a = rw (by_place None q) a

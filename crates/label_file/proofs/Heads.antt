-- The form and K of a file, whatever is to be done with it. Assumes nothing.
use mathlib.Core.Path.{◌≡◌}
use mathlib.Core.Bool.{true, false}
use mathlib.Core.List.{List}
use Prim.Native.Nat.{ℕ}
use Rattle.kmer.specs.Kmer.{ok_k}
use Rattle.label_file.specs.LabelFile.{damaged, k_in, cutoff_in, file_of, labels_of}
use Rattle.label_file.specs.Output.{Buffers, Left, refused}
use Rattle.label_file.specs.Says.{Sound, Doing, on_file}

module _ (file : List ℕ) (doing : Doing) (b : Buffers) where
  -- The form is wrong.
  pub on_damaged : {i : ℕ} → file_of file ≡ damaged i → on_file doing b file ≡ refused 13 i b
  on_damaged e = rw (e, on_file)

  module _ (s : Sound file) where
    -- K is out of range.
    pub on_bad_K : ok_k (k_in file) ≡ false → on_file doing b file ≡ refused 1 0 b
    on_bad_K e = rw (s, on_file, e)

    -- Neither: K and the cutoff are as the first record says.
    pub on_sound : ok_k (k_in file) ≡ true
        → on_file doing b file ≡ doing (k_in file) (cutoff_in file) (labels_of (file_of file)) b
    on_sound e = rw (s, on_file, e)

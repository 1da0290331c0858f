-- The cases of a text and of a note. Assumes nothing.
use mathlib.Core.Path.{◌≡◌}
use mathlib.Core.Bool.{Bool, true, false}
use mathlib.Core.List.{List}
use Prim.Native.Nat.{ℕ}
use borrow.Author.Tests.{eq-eqb, ne_eqb}
use lib.Dec.{eqb, leb}
use Rattle.text.specs.Text.{text_of, text_fits}
use Rattle.text.specs.Utf8.{utf8_of}
use Rattle.ascii.specs.Ascii.{ascii_of}
use Rattle.ascii.proofs.Plain.{ascii_text}
use Rattle.layout.specs.Layout.{NONE, note_tags, note_case_detection}
use Rattle.records.specs.Records.{text_ok, note_ok}

module _ (pool texts : List ℕ) (n : ℕ) where
  pub text_inside : {r : Bool} → text_fits pool texts n ≡ true → r ≡ utf8_of (text_of pool texts n) → r ≡ text_ok pool texts n
  unfolding text_ok
  text_inside t e = rw (t, e)

  -- of a pool of ASCII alone
  pub text_plain : text_fits pool texts n ≡ true → ascii_of pool ≡ true → true ≡ text_ok pool texts n
  unfolding text_ok
  text_plain t a = rw (t, ascii_text pool texts n a)

  pub text_outside : text_fits pool texts n ≡ false → false ≡ text_ok pool texts n
  unfolding text_ok
  text_outside t = rw t

module _ (notes : List ℕ) (n : ℕ) where
  pub untagged : note_tags notes n ≡ NONE → note_ok notes n ≡ eqb (note_case_detection notes n) 0
  unfolding note_ok
  untagged h = rw (eq-eqb (note_tags notes n) NONE h)

  pub tagged : (note_tags notes n ≡ NONE → ⊥) → note_ok notes n ≡ leb (note_case_detection notes n) 1
  unfolding note_ok
  tagged h = rw (ne_eqb (note_tags notes n) NONE h)

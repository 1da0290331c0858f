-- A text by its record: what holds of it, for this crate's proofs and for callers. Assumes nothing.
use mathlib.Core.Path.{◌≡◌, sym, ap, ◌∙◌}
use mathlib.Core.Bool.{true, false}
use mathlib.Core.List.{List, []}
use mathlib.Core.Logic.{⊎_elim}
use Prim.Native.Nat.{ℕ, ◌+◌, ◌-◌, ◌*◌, ◌<◌, ◌≤◌}
use native.Mathlib.Omega.{arith}
use lib.ListN.{length, get_or, take, drop, length-take, length-drop, get_or-eq_default}
use lib.Dec.{leb, ltb}
use borrow.Author.Tests.{lt-ltb, le-ltb, le-leb, lt-leb, leb-true, leb-false}
use Rattle.text.specs.Choice.{le_or_lt, true_or_false, both_right, pick_yes, pick_no}
use Rattle.text.specs.Text.{text_words, text_count, text_word, text_start, text_length, fits_in, part_of, text_fits, text_of}

-- a read past the end
pub past_end : (words : List ℕ) (i : ℕ) → length words ≤ i → get_or words i 0 ≡ 0
past_end words i h = get_or-eq_default words 0 {n = i} h

pub fits_true : (whole start len : ℕ) → fits_in whole start len ≡ true → start + len ≤ whole
unfolding fits_in
fits_true whole start len t = leb-true (start + len) whole t

pub fits_false : (whole start len : ℕ) → fits_in whole start len ≡ false → whole < start + len
unfolding fits_in
fits_false whole start len t = leb-false (start + len) whole t

pub fits-yes : (whole start len : ℕ) → start + len ≤ whole → fits_in whole start len ≡ true
unfolding fits_in
fits-yes whole start len h = le-leb (start + len) whole h

pub fits_no : (whole start len : ℕ) → whole < start + len → fits_in whole start len ≡ false
unfolding fits_in
fits_no whole start len h = lt-leb (start + len) whole h

-- where the rest after start is long enough is what the code asks
pub fits_rest : (whole start len : ℕ) → start ≤ whole → leb len (whole - start) ≡ fits_in whole start len
unfolding fits_in
fits_rest whole start len h =
    ⊎_elim (λ l. le-leb len (whole - start) l ∙ sym (le-leb (start + len) whole (omega arith)))
    (λ l. lt-leb len (whole - start) l ∙ sym (lt-leb (start + len) whole (omega arith)))
    (le_or_lt len (whole - start))

pub part_in : (s : List ℕ) (start len : ℕ) → fits_in (length s) start len ≡ true → part_of s start len ≡ take len (drop start s)
unfolding part_of
part_in s start len t = pick_yes (take len (drop start s)) [] t

pub part_out : (s : List ℕ) (start len : ℕ) → fits_in (length s) start len ≡ false → part_of s start len ≡ []
unfolding part_of
part_out s start len t = pick_no (take len (drop start s)) [] t

pub part_none : (s : List ℕ) → part_of s 0 0 ≡ []
part_none s = part_in s 0 0 (fits-yes (length s) 0 0 (omega arith))

module _ (texts : List ℕ) (n : ℕ) where
  pub word_in : (k : ℕ) → n < text_count texts → text_word texts n k ≡ get_or texts (text_words * n + k) 0
  unfolding text_word
  word_in k h = pick_yes (get_or texts (text_words * n + k) 0) 0 (lt-ltb n (text_count texts) h)

  pub word_out : (k : ℕ) → text_count texts ≤ n → text_word texts n k ≡ 0
  unfolding text_word
  word_out k h = pick_no (get_or texts (text_words * n + k) 0) 0 (le-ltb n (text_count texts) h)

  pub start-out : text_count texts ≤ n → text_start texts n ≡ 0
  unfolding text_start
  start-out h = word_out 0 h

  pub length-out : text_count texts ≤ n → text_length texts n ≡ 0
  unfolding text_length
  length-out h = word_out 1 h

module _ (pool texts : List ℕ) (n : ℕ) where
  -- a wrong number gives the empty part
  pub text_wrong : text_count texts ≤ n → text_of pool texts n ≡ []
  unfolding text_of
  text_wrong h = pick_no (part_of pool (text_start texts n) (text_length texts n)) [] (le-ltb n (text_count texts) h)

  -- start and length say it all: both are 0 for a wrong number
  pub text_part : text_of pool texts n ≡ part_of pool (text_start texts n) (text_length texts n)
  unfolding text_of
  text_part =
      ⊎_elim (λ h. text_wrong h ∙ rw (start-out texts n h, length-out texts n h) (sym (part_none pool)))
      (λ h. pick_yes (part_of pool (text_start texts n) (text_length texts n)) [] (lt-ltb n (text_count texts) h))
      (le_or_lt (text_count texts) n)

  -- a record that fits is that part of the pool, of its length; any other gives the empty part
  pub fits_record : n < text_count texts → text_fits pool texts n ≡ fits_in (length pool) (text_start texts n) (text_length texts n)
  unfolding text_fits
  fits_record h = rw (lt-ltb n (text_count texts) h)

  pub fits-wrong : text_count texts ≤ n → text_fits pool texts n ≡ false
  unfolding text_fits
  fits-wrong h = rw (le-ltb n (text_count texts) h)

  pub fits_within : text_fits pool texts n ≡ true → text_start texts n + text_length texts n ≤ length pool
  unfolding text_fits
  fits_within t =
      fits_true (length pool) (text_start texts n) (text_length texts n)
      (both_right (ltb n (text_count texts)) (fits_in (length pool) (text_start texts n) (text_length texts n)) t)

  pub text_in : text_fits pool texts n ≡ true → text_of pool texts n ≡ take (text_length texts n) (drop (text_start texts n) pool)
  text_in t =
      text_part ∙ part_in pool (text_start texts n) (text_length texts n) (fits-yes (length pool) (text_start texts n) (text_length texts n) (fits_within t))

  pub text_out : text_fits pool texts n ≡ false → text_of pool texts n ≡ []
  text_out t =
      ⊎_elim text_wrong (λ h. text_part ∙ part_out pool (text_start texts n) (text_length texts n) (sym (fits_record h) ∙ t))
      (le_or_lt (text_count texts) n)

  pub text_long : text_fits pool texts n ≡ true → length (text_of pool texts n) ≡ text_length texts n
  text_long t =
      let h = fits_within t in
      rw (text_in t) (simp (length-take, length-drop) (omega arith))

  -- a text is no longer than its record says
  pub text_short : (most : ℕ) → text_length texts n < most → length (text_of pool texts n) < most
  text_short most h =
      ⊎_elim (λ t. omega (arith, h, text_long t)) (λ t. omega (arith, h, ap length (text_out t))) (true_or_false (text_fits pool texts n))

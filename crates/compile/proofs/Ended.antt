-- The ends of the public call: where the tables are bad, where no used record has the number, and where the work is done. Assumes nothing.
use Prim.Native.Nat.{ℕ, ◌*◌, ◌-◌, ◌≤◌, ◌<◌}
use mathlib.Core.Path.{◌≡◌, refl, sym, ap, ◌∙◌}
use mathlib.Core.Bool.{Bool, true, false}
use mathlib.Core.List.{List}
use mathlib.Core.Logic.{⊎_elim}
use native.Mathlib.Omega.{arith}
use borrow.Author.Tests.{ne_eqb, le-leb, lt-leb}
use lib.ListN.{length, take}
use lib.Seq.{length-take-le, take_all}
use lib.Dec.{eqb}
use Rattle.text.specs.Choice.{pick, le_or_lt}
use Rattle.text.specs.Text.{padded}
use Rattle.layout.specs.Layout.{Tables}
use Rattle.error.specs.declared.Used.{Used}
use Rattle.error.specs.declared.Answer.{Answer}
use Rattle.error.specs.Answers.{number_of, plain_answer, failure_answer, found_record, with_used}
use Rattle.error.specs.Paths.{levels}
use Rattle.append.specs.Append.{cleared}
use Rattle.tables.specs.Found.{Fault, Sound}
use Rattle.compilation.specs.Compile as meaning
use Rattle.compilation.specs.Entry.{Compiled, used_tables, used_fault, finished, compile_of}
use Rattle.compilation.specs.State.{Source, Out, done, refused, source_of, state_of}
use Rattle.compilation.specs.Table.{compile_at}
use Rattle.std.specs.Prelude.{Result, Ok, Err}
use Rattle.error.specs.declared.Failure.{Failure}
use Rattle.derive.specs.Meets.{Told, told, out_of}
use Rattle.derive.proofs.Build.{number_some}
use Rattle.build.specs.Meets.{One}
use Rattle.derive.specs.declared.Made.{Made}
use Rattle.compile.specs.Ended.{answered_of, compiled, ended_of}
use Rattle.compilation.proofs.Same.{Same, made, stopped}
use Rattle.compilation.proofs.Bridge.{source_for, state_for, counts_are, compiled_same}

-- clearing keeps the used words, however many are lent
pub cleared-kept : (lent words words' kept : List ℕ) (used : ℕ) → words' ≡ cleared words used → take used words ≡ kept → length words ≡ length lent → words' ≡ padded kept (length lent)
unfolding cleared padded
cleared-kept lent words words' kept used e k l = e ∙ rw (← k, ← l, room)
  where
    room : length words - length (take used words) ≡ length words - used
    room =
        ⊎_elim
        (λ h. let t : length (take used words) ≡ used = length-take-le used words h in omega arith)
        (λ h. let t : length (take used words) ≡ length words = ap length (take_all used words (omega arith)) in omega arith)
        (le_or_lt used (length words))

-- part by part
parts : {a a' : Answer} {n n' s s' l l' : List ℕ} → a ≡ a' → n ≡ n' → s ≡ s' → l ≡ l' → compiled a n s l ≡ compiled a' n' s' l'
parts a n s l = rw (a, n, s, l)

-- the cycle's answer, where it is a record and where it refuses
told_kept : (u : Used) (r : Result Made Failure) → (told u r).used ≡ pick (eqb (told u r).no 0) (told u r).used u
told_kept u (Ok m) = refl
told_kept u (Err failure) = rw (ne_eqb (number_of failure) 0 (number_some failure))

told_answered : (u k : Used) (r : Result Made Failure) → answered_of r k ≡ pick (eqb (told u r).no 0) (with_used (found_record (told u r).rec) k) (with_used (plain_answer (told u r).no) k)
unfolding answered_of
told_answered u k (Ok m) = refl
told_answered u k (Err failure) = rw (ne_eqb (number_of failure) 0 (number_some failure))

-- what `clear` leaves
abbrev pub Cleared : List ℕ → List ℕ → List ℕ → List ℕ → List ℕ → List ℕ → Used → Type 0
Cleared N S L N' S' L' u = (N' ≡ cleared N (u.notes * 9)) × (S' ≡ cleared S (u.schemas * 16)) × (L' ≡ cleared L u.links)

module _ (P T R : List ℕ) (u : Used) (N S L N₁ S₁ L₁ N' S' L' X X' : List ℕ) (level s sp : ℕ) (made : Result Made Failure) (o : One (source_of P T R u N S L) (source_of P T R u N₁ S₁ L₁) level s (state_of u N S L) u N₁ S₁ L₁ X X' sp (told u made)) where
  abbrev a : Told
  a = told u made

  abbrev C : Source
  C = source_of P T R u N S L

  notes-long : length N₁ ≡ length N
  notes-long = ap (λ (D : Source). D.notes_lent) o.ran.source

  schemas-long : length S₁ ≡ length S
  schemas-long = ap (λ (D : Source). D.schemas_lent) o.ran.source

  links-long : length L₁ ≡ length L
  links-long = ap (λ (D : Source). D.links_lent) o.ran.source

  -- for what was done, and for a refusal, which keeps what was used before as it was
  ends : (b : Bool) → compile_at C level (state_of u N S L) s ≡ pick b (done (state_of a.used N₁ S₁ L₁) a.rec) (refused a.no) → Cleared N₁ S₁ L₁ N' S' L' (pick b a.used u) → {r : Answer} → r ≡ pick b (with_used (found_record a.rec) (pick b a.used u)) (with_used (plain_answer a.no) (pick b a.used u)) → compiled r N' S' L' ≡ ended_of N S L u (compile_at C level (state_of u N S L) s)
  unfolding ended_of state_of
  ends true e c r =
      rw e
      (parts r
      (cleared-kept N N₁ N' (take (a.used.notes * 9) N₁) (a.used.notes * 9) c.0 refl notes-long)
      (cleared-kept S S₁ S' (take (a.used.schemas * 16) S₁) (a.used.schemas * 16) c.1 refl schemas-long)
      (cleared-kept L L₁ L' (take a.used.links L₁) a.used.links c.2 refl links-long))
  ends false e c r =
      rw e
      (parts r
      (cleared-kept N N₁ N' (take (u.notes * 9) N) (u.notes * 9) c.0 (ap (λ (D : Source). D.notes) o.ran.source) notes-long)
      (cleared-kept S S₁ S' (take (u.schemas * 16) S) (u.schemas * 16) c.1 (ap (λ (D : Source). D.schemas) o.ran.source) schemas-long)
      (cleared-kept L L₁ L' (take u.links L) u.links c.2 (ap (λ (D : Source). D.links) o.ran.source) links-long))

  pub ended : {k : Used} {r : Answer} → k ≡ a.used → Cleared N₁ S₁ L₁ N' S' L' k → r ≡ answered_of made k → compiled r N' S' L' ≡ ended_of N S L u (compile_at C level (state_of u N S L) s)
  unfolding out_of
  ended k c r = let e = k ∙ told_kept u made in ends (eqb a.no 0) (sym o.answer) (rw e at c) (rw e at (r ∙ told_answered u _ made))

-- over the tables, and as the call is defined
ended_same : (T : Tables) (u : Used) {C : Source} {o : Out} {r : meaning.Result ℕ} → Same C o r → ended_of T.notes T.schemas T.links u o ≡ finished T u r
unfolding ended_of used_tables
ended_same T u (made st n g) = parts (ap (with_used (found_record n)) (sym (counts_are g))) refl refl refl
ended_same T u (stopped k) = refl

-- the check's answer, where the tables were lent as one value
pub of_lent : (u : Used) {T T' : Tables} {f : Fault} → f ≡ used_fault T u → T ≡ T' → f ≡ used_fault T' u
of_lent u e t = rw t at e

module _ (T : Tables) (u : Used) (s : ℕ) where
  pub answer_bad : (failure : Failure) → used_fault T u ≡ Err failure → {x r : Answer} → x ≡ failure_answer failure → r ≡ with_used x u → compiled r T.notes T.schemas T.links ≡ compile_of T u s
  unfolding compile_of
  answer_bad failure h x r = rw h (parts (r ∙ ap (λ (y : Answer). with_used y u) x) refl refl refl)

  pub answer_beyond : used_fault T u ≡ Sound → u.schemas ≤ s → {x r : Answer} → x ≡ plain_answer 21 → r ≡ with_used x u → compiled r T.notes T.schemas T.links ≡ compile_of T u s
  unfolding compile_of
  answer_beyond h l x r = rw (h, le-leb u.schemas s l) (parts (r ∙ ap (λ (y : Answer). with_used y u) x) refl refl refl)

  pub answer-built : used_fault T u ≡ Sound → s < u.schemas → {z : Compiled} → z ≡ ended_of T.notes T.schemas T.links u (compile_at (source_for T u) levels (state_for T u) s) → z ≡ compile_of T u s
  unfolding compile_of
  answer-built h l e = rw (h, lt-leb u.schemas s l) (e ∙ ended_same T u (compiled_same T u h s l))

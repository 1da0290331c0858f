-- What the members of the cycle need and leave.
use Rattle.std.specs.Prelude.{ℕ, ◌≤◌, ◌<◌, ◌≡◌, Bool, true, List, length, eqb, Result, Ok, Err}
use Rattle.text.specs.Choice.{pick}
use Rattle.layout.specs.Layout.{most_schemas}
use Rattle.compilation.specs.State.{Source, State, Out, Outs, many, stop, state_of}
use Rattle.compilation.specs.Table.{compile_at, each_over}
use Rattle.derive.specs.Meets.{Told, told, out_of, source_in, state_in, Ready, Ran}
use Rattle.error.specs.declared.Failure.{Failure}
use Rattle.error.specs.Answers.{number_of}
use Rattle.derive.specs.declared.Origin.{Origin}
use Rattle.derive.specs.declared.Work.{Work}
use Rattle.put.specs.Chase.{is_fresh, num, chase_at, weave_at, top_at}
use Rattle.error.specs.declared.Used.{Used}
use Rattle.derive.specs.declared.Made.{Made}
use Rattle.build.specs.declared.Many.{Many}

-- what an answer of the code tells: 0 with the used counts and the stack's top by then, or a refusal's number with those before it
pub record ToldMany : Type 0 where
  pub no : ℕ
  pub used : Used
  pub top : ℕ

abbrev pub told_many : Used → ℕ → Result Many Failure → ToldMany
told_many u sp (Ok m) = record { no = 0; used = m.used; top = m.top }
told_many u sp (Err failure) = record { no = number_of failure; used = u; top = sp }

-- what it says, with what the tables and the stack then hold
unfoldable pub outs_of : ToldMany → List ℕ → List ℕ → List ℕ → List ℕ → Outs
outs_of r N S L ns = pick (eqb r.no 0) (many (state_of r.used N S L) ns) (stop r.no)

-- a schema or none compiled
pub record Perhaps (o : Out) (C C' : Source) (u : Used) (N S L X X' : List ℕ) (sp : ℕ) (r : Told) : Type 0 where
  pub answer : out_of r N S L ≡ o
  pub ran : Ran C C' u r.used X X' sp

-- a schema compiled
pub record One (C C' : Source) (level s : ℕ) (st : State) (u : Used) (N S L X X' : List ℕ) (sp : ℕ) (r : Told) : Type 0 where
  pub answer : out_of r N S L ≡ compile_at C level st s
  pub ran : Ran C C' u r.used X X' sp
  pub fresh : r.no ≡ 0 → r.fresh ≡ is_fresh (chase_at C level s)
  pub rise : r.no ≡ 0 → r.fresh ≡ true → u.schemas < r.used.schemas
  pub number : r.no ≡ 0 → num (chase_at C level s) r.rec ≡ r.rec

-- children compiled: their numbers are what the stack and the leaves weave
pub record Each (C C' : Source) (below : ℕ) (st : State) (items : List ℕ) (u : Used) (N S L X X' : List ℕ) (sp : ℕ) (r : ToldMany) : Type 0 where
  pub answer : outs_of r N S L (weave_at (chase_at C below) items X' sp) ≡ each_over (compile_at C below) st items
  pub ran : Ran C C' u r.used X X' sp
  pub top : r.no ≡ 0 → r.top ≡ top_at (chase_at C below) items sp
  pub low : r.no ≡ 0 → r.top ≤ r.used.schemas

-- the same three of what a call is lent and leaves
abbrev pub Compiles : Origin → Work → Work → List ℕ → List ℕ → Used → ℕ → ℕ → ℕ → Result Made Failure → Type 0
Compiles o w w' L L' u sp level s r =
    One (source_in o w L) (source_in o w' L') level s (state_in u w L) u w'.notes.now w'.schemas.now L' w.stack.now w'.stack.now sp (told u r)

abbrev pub CompilesOrNone : Origin → Work → Work → List ℕ → List ℕ → Used → ℕ → (Source → State → Out) → Result Made Failure → Type 0
CompilesOrNone o w w' L L' u sp out r =
    Perhaps (out (source_in o w L) (state_in u w L)) (source_in o w L) (source_in o w' L') u w'.notes.now w'.schemas.now L' w.stack.now w'.stack.now sp (told u r)

abbrev pub CompilesEach : Origin → Work → Work → List ℕ → List ℕ → Used → ℕ → ℕ → List ℕ → Result Many Failure → Type 0
CompilesEach o w w' L L' u sp below items r =
    Each (source_in o w L) (source_in o w' L') below (state_in u w L) items u w'.notes.now w'.schemas.now L' w.stack.now w'.stack.now sp (told_many u sp r)

pub record Pushable (fresh : Bool) (top : ℕ) (X : List ℕ) : Type 0 where
  pub most : top ≤ most_schemas
  pub free : fresh ≡ true → top < length X

pub record EachReady (b u : Used) (X : List ℕ) (sp at step : ℕ) : Type 0 where
  pub ready : Ready b u X sp
  pub reach : at ≤ 4294967296
  pub short : step ≤ 2

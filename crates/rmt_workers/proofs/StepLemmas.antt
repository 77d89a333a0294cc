-- A client's steps one after the other: it sees the table, and then does something to it.
use Rattle.std.proofs.Common.{◌⊎◌, ◌≡◌, ◌<◌, inl, inr, ℕ, zero, suc, Bool, true, length, arith, List, [], ◌∷◌, ◌++◌, set, refl, sym, ap, subst, ◌∙◌}
use Rattle.std.specs.Prelude.{IfSome, MatchOption, OnOk, OnErr}
use Rattle.std.specs.declared.result.Result.{Result}
use Rattle.std.specs.declared.result.Result.TheVariants.{Ok, Err}
use Rattle.std.specs.declared.option.Option.{Option}
use Rattle.std.specs.declared.option.Option.TheVariants.{Some, None}
use Rattle.rmt_entries.specs.declared.entry.Entry.{Entry}
use Rattle.rmt_events.specs.Views.{Block}
use Rattle.rmt_table_model.specs.Held.{Held}
use Rattle.rmt_statement_model.specs.TableStates.{TableState}
use Rattle.rmt_statement_model.specs.Rests.{Runs}
use Rattle.rmt_clients.specs.Clients.{Client, Fits, KnowsTable, RestsAnd, SeesHere, StepsTo, known_table, seeing}
use Rattle.rmt_clients.proofs.ClientMeets.{seeing-both, sees-both}
use Rattle.rmt_clients.proofs.ClientRests.{knows-itself, ran, rested, rests-again, rests-as}
use Rattle.rmt_known.specs.KnownTables.{Known}
use Rattle.rmt_pass.specs.Passes.{PassView, IsCurrent, KeepsPass, SeesTable, TakesStep, client_at, known_at}
use Rattle.rmt_pass.proofs.OwnLemmas.{keeps-itself}
use Rattle.rmt_workers.specs.Crews.{Saw}

-- one thing is put in the place of another
set-twice : {A : Type 0} (xs : List A) (k : ℕ) (x y : A) → set (set xs k x) k y ≡ set xs k y
set-twice [] k x y = refl
set-twice (z ∷ xs) zero x y = refl
set-twice (z ∷ xs) (suc k) x y = ap (λ ys. z ∷ ys) (set-twice xs k x y)

-- what keeps all but one table's knowledge, and then does again, does
pub keeps-both : (old mid new : PassView) (k : ℕ) → KeepsPass old k mid → KeepsPass mid k new → KeepsPass old k new
keeps-both old mid new k a b = record {
  rest =
      b.rest
      ∙ (ap (λ (p : PassView). record p { tables = set p.tables k (known_at new k); gave_up = new.gave_up }) a.rest
      ∙ ap (λ (ks : List Known). record old { tables = ks; gave_up = new.gave_up }) (set-twice old.tables k (known_at mid k) (known_at new k)));
  schema = b.schema ∙ a.schema;
  fetching = b.fetching ∙ a.fetching;
  marks = b.marks ∙ a.marks;
}

-- what the client has seen it knows as it is
pub sees-current : (old : PassView) (k : ℕ) (tables : List Held) (new : PassView) → SeesTable old k tables new → IsCurrent new k tables
sees-current old k tables new s = record { there = s.there; table = s.table; is = s.is; now = s.all.now; goes = s.goes }

-- a step at what the client has seen is one at what it knew before
pub sees-then-steps : (O : Block → Type 0) (p mid q : Client) (gained : List Entry) (noted : List ℕ) (Change : TableState → TableState → Type 0) → SeesHere p gained → mid ≡ seeing gained noted p → StepsTo O mid Change q → StepsTo O p Change q
sees-then-steps O p mid q gained noted Change sees is steps = λ clear t fits.
    rests-again O p q gained noted Change sees (subst (λ (m : Client). (at : TableState) → Fits O m at → RestsAnd O q Change at) is (steps clear)) t fits

pub sees-then-takes : (O : ℕ → Block → Type 0) (old mid new : PassView) (k : ℕ) (tables : List Held) (Change : TableState → TableState → Type 0) → SeesTable old k tables mid → TakesStep O mid k Change new → TakesStep O old k Change new
sees-then-takes O old mid new k tables Change s step = record {
  steps = sees-then-steps (O k) (client_at old k) (client_at mid k) (client_at new k) s.all.gained s.all.noted Change s.all.sees s.all.seen step.steps;
  keeps = keeps-both old mid new k s.all.keeps step.keeps;
  goes = step.goes;
}

-- what it has seen it saw
pub saw-of : (old : PassView) (k : ℕ) (tables : List Held) (new : PassView) → SeesTable old k tables new → Saw old k new
saw-of old k tables new s = record { gained = s.all.gained; noted = s.all.noted; sees = s.all.sees; seen = s.all.seen; keeps = s.all.keeps; goes = s.goes }

-- the same replicas are up
pub keeps-up : (old : PassView) (k : ℕ) (new : PassView) → KeepsPass old k new → new.up ≡ old.up
keeps-up old k new s = ap (λ (p : PassView). p.up) s.rest

-- what it saw in two looks it saw in one
pub saw-both : (old mid new : PassView) (k : ℕ) → Saw old k mid → Saw mid k new → Saw old k new
saw-both old mid new k a b = record {
  gained = b.gained ++ a.gained;
  noted = b.noted ++ a.noted;
  sees = sees-both (client_at old k) b.gained a.gained a.noted a.sees (subst (λ (p : Client). SeesHere p b.gained) a.seen b.sees);
  seen = b.seen ∙ (ap (λ (p : Client). seeing b.gained b.noted p) a.seen ∙ seeing-both b.gained a.gained b.noted a.noted (client_at old k));
  keeps = keeps-both old mid new k a.keeps b.keeps;
  goes = b.goes;
}

-- a step at what it saw is one at what it knew before
pub saw-then-takes : (O : ℕ → Block → Type 0) (old mid new : PassView) (k : ℕ) (Change : TableState → TableState → Type 0) → Saw old k mid → TakesStep O mid k Change new → TakesStep O old k Change new
saw-then-takes O old mid new k Change s step = record {
  steps = sees-then-steps (O k) (client_at old k) (client_at mid k) (client_at new k) s.gained s.noted Change s.sees s.seen step.steps;
  keeps = keeps-both old mid new k s.keeps step.keeps;
  goes = step.goes;
}

-- what the client saw it knows
saw-knows : (old new : PassView) (k : ℕ) → (s : Saw old k new) → KnowsTable (client_at new k) (known_table (seeing s.gained s.noted (client_at old k)))
saw-knows old new k s = subst (λ (p : Client). KnowsTable (client_at new k) (known_table p)) s.seen (knows-itself (client_at new k))

-- what it saw is a step that changes nothing
pub saw-rests : (O : ℕ → Block → Type 0) (old new : PassView) (k : ℕ) → Saw old k new → TakesStep O old k (λ t u. u ≡ t) new
saw-rests O old new k s = record {
  steps = λ clear t fits. rested (O k) (client_at old k) s.gained s.noted (client_at new k) s.sees (saw-knows old new k s) t fits;
  keeps = s.keeps;
  goes = s.goes;
}

-- and it is any number of turns of background work
pub saw-runs : (O : ℕ → Block → Type 0) (up : ℕ → Bool) (turns : ℕ) (old new : PassView) (k : ℕ) → Saw old k new → TakesStep O old k (λ t u. Runs true up turns t u) new
saw-runs O up turns old new k s = record {
  steps = λ clear t fits. ran (O k) up turns (client_at old k) s.gained s.noted (client_at new k) s.sees (saw-knows old new k s) t fits;
  keeps = s.keeps;
  goes = s.goes;
}

-- a step that is one of another kind too
pub takes-as : (O : ℕ → Block → Type 0) (old new : PassView) (k : ℕ) (C D : TableState → TableState → Type 0) → ((t u : TableState) → C t u → D t u) → TakesStep O old k C new → TakesStep O old k D new
takes-as O old new k C D f s = record { steps = λ clear t fits. rests-as (O k) (client_at new k) C D f t (s.steps clear t fits); keeps = s.keeps; goes = s.goes }

-- ---- looks

-- the client has taken over what workers did, or hasn't looked yet
abbrev pub Looked : PassView → ℕ → PassView → Type 0
Looked old k new = (new ≡ old) ⊎ Saw old k new

set-length : {A : Type 0} (xs : List A) (k : ℕ) (x : A) → length (set xs k x) ≡ length xs
set-length [] k x = refl
set-length (y ∷ ys) zero x = refl
set-length (y ∷ ys) (suc k) x = ap suc (set-length ys k x)

-- no table comes or goes
pub keeps-there : (old : PassView) (k : ℕ) (new : PassView) → KeepsPass old k new → k < length old.tables → k < length new.tables
keeps-there old k new s h =
    let a : length new.tables ≡ length (set old.tables k (known_at new k)) = ap (λ (p : PassView). length p.tables) s.rest in
    let b = set-length old.tables k (known_at new k) in
    omega (arith, a, b, h)

-- one look more
pub looked-saw : (old mid new : PassView) (k : ℕ) → Looked old k mid → Saw mid k new → Saw old k new
looked-saw old mid new k (inl e) s = subst (λ (p : PassView). Saw p k new) e s
looked-saw old mid new k (inr a) s = saw-both old mid new k a s

-- a step after looks
pub looked-takes : (O : ℕ → Block → Type 0) (old mid new : PassView) (k : ℕ) (Change : TableState → TableState → Type 0) → Looked old k mid → TakesStep O mid k Change new → TakesStep O old k Change new
looked-takes O old mid new k Change (inl e) s = subst (λ (p : PassView). TakesStep O p k Change new) e s
looked-takes O old mid new k Change (inr a) s = saw-then-takes O old mid new k Change a s

-- nothing but what is known of that table changes
pub looked-keeps : (old new : PassView) (k : ℕ) → Looked old k new → KeepsPass old k new
looked-keeps old new k (inl e) = subst (λ (p : PassView). KeepsPass old k p) (sym e) (keeps-itself old k)
looked-keeps old new k (inr s) = s.keeps

pub looked-there : (old new : PassView) (k : ℕ) → Looked old k new → k < length old.tables → k < length new.tables
looked-there old new k l h = keeps-there old k new (looked-keeps old new k l) h

-- a step that may not come about, at what the client has seen
pub may-take : {S : Type 0} (O : ℕ → Block → Type 0) (old mid new : PassView) (k : ℕ) (tables : List Held) (Change : S → TableState → TableState → Type 0) (found : Option S) → SeesTable old k tables mid → MatchOption found (new ≡ mid) (λ s. TakesStep O mid k (Change s) new) → MatchOption found (Saw old k new) (λ s. TakesStep O old k (Change s) new)
may-take O old mid new k tables Change None s e = subst (λ (p : PassView). Saw old k p) (sym e) (saw-of old k tables mid s)
may-take O old mid new k tables Change (Some x) s t = sees-then-takes O old mid new k tables (Change x) s t

-- what is said where there is nothing, and where there is something
pub from-none : {S : Type 0} (o : Option S) (P : Type 0) (Q : S → Type 0) → o ≡ None → MatchOption o P Q → P
from-none o P Q e = subst (λ x. MatchOption x P Q → P) (sym e) (λ p. p)

pub from-some : {S : Type 0} (o : Option S) (x : S) (P : Type 0) (Q : S → Type 0) → o ≡ Some x → MatchOption o P Q → Q x
from-some o x P Q e = subst (λ y. MatchOption y P Q → Q x) (sym e) (λ q. q)

pub if-some : {S : Type 0} (o : Option S) (x : S) (Q : S → Type 0) → o ≡ Some x → IfSome o Q → Q x
if-some o x Q e = subst (λ y. IfSome y Q → Q x) (sym e) (λ q. q)

pub some-as : {S : Type 0} (o : Option S) (U : Type 0) (P Q : S → Type 0) → ((x : S) → P x → Q x) → MatchOption o U P → IfSome o Q
some-as None U P Q f m = tt
some-as (Some x) U P Q f m = f x m

-- what follows on success, and at an error
pub ok-as : {T E : Type 0} (r : Result T E) (A B : Type 0) → (A → B) → OnOk r A → OnOk r B
ok-as (Ok x) A B f a = f a
ok-as (Err e) A B f a = tt

pub err-as : {T E : Type 0} (r : Result T E) (A B : Type 0) → (A → B) → OnErr r A → OnErr r B
err-as (Ok x) A B f a = tt
err-as (Err e) A B f a = f a

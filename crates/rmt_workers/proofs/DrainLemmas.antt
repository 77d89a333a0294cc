-- A replica looks at its table's log, and goes on until it is up to date.
use Rattle.std.proofs.Common.{◌≡◌, ◌<◌, ℕ, Bool, true, false, List, length, get_or, sym, ap, subst, arith, ◌∙◌}
use Rattle.std.proofs.lemmas.List.{get_or_default}
use Rattle.std.specs.Prelude.{MatchBool}
use Rattle.rmt_events.specs.Views.{Block, Table}
use Rattle.rmt_reply.specs.declared.refusal.Refusal.{Refusal}
use Rattle.rmt_table_model.specs.Held.{Held}
use Rattle.rmt_table.specs.TableTrees.{table_at}
use Rattle.rmt_statement_model.specs.TableStates.{synced}
use Rattle.rmt_statement_model.specs.LostSources.{LacksSource}
use Rattle.rmt_shared.specs.SharedTables.{views_of}
use Rattle.rmt_shared.proofs.NamedLemmas.{map-get, map-length}
use Rattle.rmt_pass.specs.Passes.{PassView, IsCurrent, TakesStep, up_in}
use Rattle.rmt_workers.specs.Crews.{Saw}
use Rattle.rmt_workers.proofs.StepLemmas.{Looked, keeps-up, looked-saw, saw-then-takes}

-- what a client knows of a table it knows of one that events see as the same
pub current-as : (p : PassView) (k : ℕ) (ts us : List Held) → views_of ts ≡ views_of us → IsCurrent p k us → IsCurrent p k ts
current-as p k ts us e now =
    let long : length (views_of ts) ≡ length (views_of us) = ap (λ (vs : List Table). length vs) e in
    let a = map-length table_at ts in
    let b = map-length table_at us in
    let under = now.there in
    let there : k < length ts = omega (arith, long, a, b, under) in
    let h = get_or ts k now.table in
    let seen : table_at h ≡ table_at now.table =
    sym (map-get table_at ts k now.table (table_at now.table) there)
    ∙ (ap (λ (vs : List Table). get_or vs k (table_at now.table)) e
    ∙ (map-get table_at us k now.table (table_at now.table) under ∙ ap table_at (sym now.is))) in
    record {
      there = there;
      table = h;
      is = get_or_default ts k now.table h there;
      now = record {
        schema = now.now.schema ∙ ap (λ (t : Table). t.schema) (sym seen);
        log = now.now.log ∙ ap (λ (t : Table). t.log) (sym seen);
        next = now.now.next ∙ ap (λ (t : Table). t.next) (sym seen);
        quorum = now.now.quorum ∙ ap (λ (t : Table). t.quorum) (sym seen);
      };
      goes = now.goes;
    }

-- a part is lost to a replica, for what the client saw: the same replicas are up as before
pub looked-loses : (O : ℕ → Block → Type 0) (old mid new : PassView) (k r : ℕ) (why : Refusal) → Saw old k mid → TakesStep O mid k (λ t u. LacksSource (up_in mid.up) t r why u) new → TakesStep O old k (λ t u. LacksSource (up_in old.up) t r why u) new
looked-loses O old mid new k r why saw step =
    saw-then-takes O old mid new k (λ t u. LacksSource (up_in old.up) t r why u) saw
    (subst (λ (up : List Bool). TakesStep O mid k (λ t u. LacksSource (up_in up) t r why u) new) (keeps-up old k mid saw.keeps) step)

-- what is said where a test holds, and where it doesn't
pub from-true : (b : Bool) (P Q : Type 0) → b ≡ true → MatchBool b P Q → P
from-true b P Q e = subst (λ x. MatchBool x P Q → P) (sym e) (λ p. p)

from-false : (b : Bool) (P Q : Type 0) → b ≡ false → MatchBool b P Q → Q
from-false b P Q e = subst (λ x. MatchBool x P Q → Q) (sym e) (λ q. q)

-- one look more, at a replica that isn't up to date
pub looked-on : (O : ℕ → Block → Type 0) (old mid new : PassView) (k r : ℕ) (caught : Bool) → Looked old k mid → caught ≡ false → MatchBool caught (TakesStep O mid k (λ t u. u ≡ synced r t) new) (Saw mid k new) → Saw old k new
looked-on O old mid new k r caught l e m = looked-saw old mid new k l (from-false caught (TakesStep O mid k (λ t u. u ≡ synced r t) new) (Saw mid k new) e m)

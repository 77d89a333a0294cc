-- Which entries can be done.
use Rattle.std.proofs.Common.{◌≡◌, ℕ, ◌<◌, ◌⊎◌, ◌↔◌, inl, inr, Bool, true, false, cond, List, [], ◌∷◌, length, IsTrue, refl, sym, ap, arith, ◌∙◌, nat_eq}
use Rattle.std.proofs.lemmas.Bool.Decides.{nat_tests}
use Rattle.std.specs.Prelude.{IfSome}
use Rattle.std.specs.declared.option.Option.{Option}
use Rattle.std.specs.declared.option.Option.TheVariants.{Some, None}
use Rattle.rmt_names.specs.Names.{Name}
use Rattle.rmt_entries.specs.declared.entry.Entry.{Entry}
use Rattle.rmt_entries.specs.declared.entry.Entry.TheVariants.{Get, Merge, Mutate, Mutation, DropRange}
use Rattle.rmt_model.specs.Words.{Has, Each}
use Rattle.rmt_model.specs.Lawful.{entry_at}
use Rattle.rmt_model.proofs.Drops.{some-same}
use Rattle.rmt_partset.specs.ActiveParts.{part_names}
use Rattle.rmt_table_model.specs.Kept.{is_get}
use Rattle.rmt_events.specs.ApplyEvents.{IsFirstInactive}
use Rattle.rmt_replica.specs.declared.why.Why.{Why}
use Rattle.rmt_replica.specs.declared.why.Why.TheVariants as whys
use Rattle.rmt_replica.specs.Replicas.{ReplicaView}
use Rattle.rmt_replica.specs.Answers.{IsReady, Lacks, IsWhy}
use Rattle.rmt_jobs.specs.Jobs.{WaitsForPart, IsGetEntry}

-- ---- the entry at a place

-- there is an entry at each place of a log
within-some : (log : List Entry) (i : ℕ) → i < length log → entry_at log i ≡ None → ⊥
within-some [] i h e = omega (arith, h)
within-some (x ∷ log) i h e = go (nat_eq i (length log)) refl e (within-some log i)
  where
    go : (t : Bool) → nat_eq i (length log) ≡ t → cond t (Some x) (entry_at log i) ≡ None
        → (i < length log → entry_at log i ≡ None → ⊥) → ⊥
    go true q w f = absurd (cc)
    go false q w f = let k : i < length log = grind (arith, nat_tests) in f k w

pub get-entry : (log : List Entry) (i : ℕ) (e : Entry) (b : Bool) → entry_at log i ≡ Some e → is_get e ≡ b
    → IsTrue b ↔ IsGetEntry log i
get-entry log i e b s q = (λ t. record { entry = e; stands = s; is = q ∙ t }, back)
  where
    back : IsGetEntry log i → IsTrue b
    back g = sym q ∙ (ap is_get (some-same e g.entry (sym s ∙ g.stands)) ∙ g.is)

pub not-get : (e : Entry)
    → ((p : Option ℕ) (n : ℕ) (digest : List ℕ) (source need : ℕ) → e ≡ Get p n digest source need → ⊥)
    → is_get e ≡ false
not-get (Get p n digest source need) f = absurd (f p n digest source need refl)
not-get (Merge new sources count) f = refl
not-get (Mutate old new upto count mcount) f = refl
not-get (Mutation id numbers command) f = refl
not-get (DropRange p n) f = refl

-- ---- a part that is missing

all-active : (names active : List Name) (a : Name) → Each (Has active) names → IsFirstInactive names active a → ⊥
all-active [] active a e f = f
all-active (c ∷ names) active a e (inl f) = f.0 e.0
all-active (c ∷ names) active a e (inr f) = all-active names active a e.1 f.1

ready-lacks-none : (r : ReplicaView) (e : Entry) (a : Name) → IsReady r e → Lacks r e a → ⊥
ready-lacks-none r (Get p n digest source need) a f l = f l.0
ready-lacks-none r (Merge new sources count) a f l = all-active sources (part_names r.parts) a f l
ready-lacks-none r (Mutate old new upto count mcount) a f l = l.1 f
ready-lacks-none r (Mutation id numbers command) a f l = l
ready-lacks-none r (DropRange p n) a f l = l

ready-waits-not : (r : ReplicaView) (o : Option Entry) (a : Name) → (o ≡ None → ⊥) → IfSome o (IsReady r)
    → IfSome o (λ e. Lacks r e a) → ⊥
ready-waits-not r None a h f l = h refl
ready-waits-not r (Some e) a h f l = ready-lacks-none r e a f l

-- an entry waits for a part exactly where that is why
pub waits-not : (r : ReplicaView) (i : ℕ) (why : Why) → i < length r.log → IsWhy r i why
    → ((a : Name) → why ≡ whys.NeedsPart a → ⊥) → WaitsForPart r i → ⊥
waits-not r i whys.Covered h y n w = w.why.0.open_entry y
waits-not r i whys.Dropped h y n w = w.why.0.not_dropped y.1
waits-not r i whys.Ready h y n w = ready-waits-not r (entry_at r.log i) w.part (within-some r.log i h) y.1 w.why.1
waits-not r i (whys.NeedsPart a) h y n w = n a refl

pub waits-for-nothing : (r : ReplicaView) (i : ℕ) (why : Why) → i < length r.log → IsWhy r i why
    → (why ≡ whys.Covered) ⊎ ((why ≡ whys.Dropped) ⊎ (why ≡ whys.Ready)) → IsTrue false ↔ WaitsForPart r i
waits-for-nothing r i why h y k = (λ t. absurd (cc), λ w. absurd (waits-not r i why h y (other k) w))
  where
    other : (why ≡ whys.Covered) ⊎ ((why ≡ whys.Dropped) ⊎ (why ≡ whys.Ready)) → (a : Name)
        → why ≡ whys.NeedsPart a → ⊥
    other (inl e) a q = absurd (cc)
    other (inr (inl e)) a q = absurd (cc)
    other (inr (inr e)) a q = absurd (cc)

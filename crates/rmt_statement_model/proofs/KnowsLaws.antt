-- What is known at replicas stays known under each event; an entry that was looked at is known then.
use Rattle.std.proofs.Common.{◌≡◌, ℕ, ◌<◌, ◌≤◌, ◌⊎◌, inl, inr, ◌&&◌, ◌||◌, Bool, true, false, List, length, refl, sym, ap, subst, arith, nat_eq, nat_lt}
use Rattle.std.proofs.lemmas.Bool.Decides.{nat_tests}
use Rattle.rmt_entries.specs.declared.entry.Entry.{Entry}
use Rattle.rmt_model.specs.Words.{Has}
use Rattle.rmt_model.specs.CopiedParts.{names_of}
use Rattle.rmt_model.proofs.Lists.{Each-at}
use Rattle.rmt_model.proofs.Standing.{fair-fewer}
use Rattle.rmt_queue.specs.Marks.{done_at}
use Rattle.rmt_events.specs.Views.{Replica}
use Rattle.rmt_events.specs.ReplicaCalls.{IsStanding, IsDrained}
use Rattle.rmt_events.specs.Clusters.{Cluster, with_replica}
use Rattle.rmt_events.specs.Whole.{Follows, IsWhole}
use Rattle.rmt_events.specs.ClusterChanges.{IsNumbered, AtReplica}
use Rattle.rmt_events.specs.ApplyEvents.{Applies}
use Rattle.rmt_events.specs.Steps.{Does, Step}
use Rattle.rmt_events.proofs.FairSteps.{fair-both}
use Rattle.rmt_events.proofs.Supplies.{number-applies}
use Rattle.rmt_events.proofs.WholeReplica.{follower}
use Rattle.rmt_events.proofs.WholeTries.{one-replica}
use Rattle.rmt_events.proofs.Drains.{nat-same}
use Rattle.rmt_statement_model.specs.TableStates.{learned, learned_to}
use Rattle.rmt_statement_model.specs.Shows.{Knows, EachKnows}
use Rattle.rmt_statement_model.proofs.Replaced.{has-other}
use Rattle.rmt_statement_model.proofs.Learning.{knows-same, knows-fewer, knows-pulls, learns-applies, copy-applies, knows-here, knows-elsewhere}
use Rattle.rmt_events.specs.declared.event.Event.{Event}
use Rattle.rmt_events.specs.declared.reply.Reply.{Reply}
use Rattle.rmt_events.specs.declared.applied.Applied.{Applied}
use Rattle.rmt_events.specs.declared.event.Event.TheVariants as ev
use Rattle.rmt_events.specs.declared.reply.Reply.TheVariants as rp

-- ---- one replica changes

-- it knows what it is to know, and so do the others
replaced-knows : (s : Cluster) (k : ℕ) (x y : Replica) (old new : ℕ → ℕ → Bool) → IsWhole s → IsNumbered s k x → y.number ≡ x.number → EachKnows s.replicas old → (Knows x (old x.number) → Knows y (new y.number)) → ((z : Replica) → (z.number ≡ k → ⊥) → Knows z (old z.number) → Knows z (new z.number)) → (z : Replica) → Has (with_replica s.replicas k y) z → Knows z (new z.number)
replaced-knows s k x y old new w at e f g h z i = elim (has-other s.replicas k y z w.rising i) [
  | inl q ↦ subst (λ (v : Replica). Knows v (new v.number)) q (g (f x at.is_in))
  | inr m ↦ h z m.1 (f z m.0)
]

-- its copy and its parts don't change
quiet : (s : Cluster) (k : ℕ) (x y : Replica) (known : ℕ → ℕ → Bool) → IsWhole s → IsNumbered s k x → y.number ≡ x.number → y.log ≡ x.log → y.parts ≡ x.parts → EachKnows s.replicas known → (z : Replica) → Has (with_replica s.replicas k y) z → Knows z (known z.number)
quiet s k x y known w at e l p f =
    replaced-knows s k x y known known w at e f (λ v. subst (λ j. Knows y (known j)) (sym e) (knows-same x y (known x.number) l p v)) (λ z h v. v)

-- it alone changes
at-replica : (s t : Cluster) (k : ℕ) (Change : Replica → Replica → Type 0) (known : ℕ → ℕ → Bool) → IsWhole s → (a : AtReplica s k Change t) → a.new.number ≡ a.old.number → (Knows a.old (known a.old.number) → Knows a.new (known a.old.number)) → EachKnows s.replicas known → EachKnows t.replicas known
at-replica s t k Change known w a e g f =
    subst (λ (u : Cluster). EachKnows u.replicas known) (sym a.change)
    (replaced-knows s k a.old a.new known known w a.at e f (λ v. subst (λ j. Knows a.new (known j)) (sym e) (g v)) (λ z n v. v))

-- ---- an entry is looked at

-- the place is known at the replica, and all else is known as it was
applies-known : (s t : Cluster) (k i : ℕ) (reply : Reply) (known : ℕ → ℕ → Bool) → IsWhole s → Applies s k i reply t → EachKnows s.replicas known → EachKnows t.replicas (learned known k i)
applies-known s t k i reply known w a f =
    let r = a.at in
    let n = number-applies s r.old r.new i a.comes r.does.1 in
    subst (λ (u : Cluster). EachKnows u.replicas (learned known k i)) (sym r.change)
    (replaced-knows s k r.old r.new known (learned known k i) w r.at n f
    (λ v. knows-here r.old r.new k i known (copy-applies s r.old r.new i a.comes r.does.1) n r.does.0 v (learns-applies s r.old r.new i a.comes (known r.old.number) w (follower s k r.old w r.at) v r.does.1))
    (λ z m v. knows-elsewhere z k i known m v))

-- what was known stays known
applies-knows : (s t : Cluster) (k i : ℕ) (reply : Reply) (known : ℕ → ℕ → Bool) → IsWhole s → Applies s k i reply t → EachKnows s.replicas known → EachKnows t.replicas known
applies-knows s t k i reply known w a f z h = knows-fewer z (learned known k i z.number) (known z.number) (λ j e. more (nat_eq z.number k && nat_eq j i) (known z.number j) e) (applies-known s t k i reply known w a f z h)
  where
    more : (b d : Bool) → d ≡ true → (b || d) ≡ true
    more true d e = refl
    more false d e = e

-- ---- each event

-- what the event does, before it is stored
knows-does : (s t : Cluster) (e : Event) (r : Reply) (known : ℕ → ℕ → Bool) → IsWhole s → Does s e r t → EachKnows s.replicas known → EachKnows t.replicas known
knows-does s t (ev.Allocate k b need) r known w (inl d) f = subst (λ (u : Cluster). EachKnows u.replicas known) (sym d.change) f
knows-does s t (ev.Allocate k b need) r known w (inr d) f = subst (λ (u : Cluster). EachKnows u.replicas known) (sym d.unchanged) f
knows-does s t (ev.Again id) r known w (inl d) f = subst (λ (u : Cluster). EachKnows u.replicas known) (sym d.change) f
knows-does s t (ev.Again id) r known w (inr d) f = subst (λ (u : Cluster). EachKnows u.replicas known) (sym d.unchanged) f
knows-does s t (ev.Stage id) r known w (inl d) f =
    let a = d.at in
    at-replica s t d.attempt.replica _ known w a (ap (λ (z : Replica). z.number) a.does) (λ v. knows-same a.old a.new (known a.old.number) (ap (λ (z : Replica). z.log) a.does) (ap (λ (z : Replica). z.parts) a.does) v) f
knows-does s t (ev.Stage id) r known w (inr d) f = subst (λ (u : Cluster). EachKnows u.replicas known) (sym d.unchanged) f
knows-does s t (ev.Commit id) r known w (inl d) f = subst (λ (u : Cluster). EachKnows u.replicas known) (sym d.change) f
knows-does s t (ev.Commit id) r known w (inr (inl d)) f =
    let e = d.ends in
    subst (λ (u : Cluster). EachKnows u.replicas known) (sym e.change) (quiet s e.attempt.replica e.replica e.new known w e.at (ap (λ (z : Replica). z.number) e.unstages) (ap (λ (z : Replica). z.log) e.unstages) (ap (λ (z : Replica). z.parts) e.unstages) f)
knows-does s t (ev.Commit id) r known w (inr (inr d)) f = subst (λ (u : Cluster). EachKnows u.replicas known) (sym d.unchanged) f
knows-does s t (ev.Abandon id) r known w (inl d) f =
    let e = d.0 in
    subst (λ (u : Cluster). EachKnows u.replicas known) (sym e.change) (quiet s e.attempt.replica e.replica e.new known w e.at (ap (λ (z : Replica). z.number) e.unstages) (ap (λ (z : Replica). z.log) e.unstages) (ap (λ (z : Replica). z.parts) e.unstages) f)
knows-does s t (ev.Abandon id) r known w (inr d) f = subst (λ (u : Cluster). EachKnows u.replicas known) (sym d.unchanged) f
knows-does s t (ev.Pull k) r known w (inl d) f =
    let a = d.at in
    at-replica s t k _ known w a (ap (λ (z : Replica). z.number) a.does) (λ v. knows-pulls a.old a.new s.table.log (known a.old.number) (Follows.prefix (follower s k a.old w a.at)) v a.does) f
knows-does s t (ev.Pull k) r known w (inr d) f = subst (λ (u : Cluster). EachKnows u.replicas known) (sym d.unchanged) f
knows-does s t (ev.Apply k i) r known w (inl d) f = applies-knows s t k i r known w d f
knows-does s t (ev.Apply k i) r known w (inr d) f = subst (λ (u : Cluster). EachKnows u.replicas known) (sym d.unchanged) f
knows-does s t (ev.Merge k sources) r known w (inl d) f = subst (λ (u : Cluster). EachKnows u.replicas known) (sym d.appends.at.change) f
knows-does s t (ev.Merge k sources) r known w (inr d) f = subst (λ (u : Cluster). EachKnows u.replicas known) (sym d.unchanged) f
knows-does s t (ev.Mutate k part upto) r known w (inl d) f = subst (λ (u : Cluster). EachKnows u.replicas known) (sym d.appends.at.change) f
knows-does s t (ev.Mutate k part upto) r known w (inr d) f = subst (λ (u : Cluster). EachKnows u.replicas known) (sym d.unchanged) f
knows-does s t (ev.CreateMutation command) r known w (inl d) f = subst (λ (u : Cluster). EachKnows u.replicas known) (sym d.at.change) f
knows-does s t (ev.CreateMutation command) r known w (inr d) f = subst (λ (u : Cluster). EachKnows u.replicas known) (sym d.unchanged) f
knows-does s t (ev.DropPartition p) r known w (inl d) f = subst (λ (u : Cluster). EachKnows u.replicas known) (sym d.1.at.change) f
knows-does s t (ev.DropPartition p) r known w (inr (inl d)) f = subst (λ (u : Cluster). EachKnows u.replicas known) (sym d.unchanged) f
knows-does s t (ev.DropPartition p) r known w (inr (inr d)) f = subst (λ (u : Cluster). EachKnows u.replicas known) (sym d.unchanged) f
knows-does s t (ev.Kill k) r known w d f =
    subst (λ (u : Cluster). EachKnows u.replicas known) (sym d.change) (quiet s k d.old d.new known w d.at (ap (λ (z : Replica). z.number) d.dies) (ap (λ (z : Replica). z.log) d.dies) (ap (λ (z : Replica). z.parts) d.dies) f)
knows-does s t (ev.Restart k) r known w d f =
    subst (λ (u : Cluster). EachKnows u.replicas known) (sym d.change) (quiet s k d.old d.new known w d.at (ap (λ (z : Replica). z.number) d.wakes) (ap (λ (z : Replica). z.log) d.wakes) (ap (λ (z : Replica). z.parts) d.wakes) f)
knows-does s t (ev.Note k) r known w (inl d) f =
    subst (λ (u : Cluster). EachKnows u.replicas known) (sym d.change)
    (quiet s k d.old d.new known w d.is.at (ap (λ (z : Replica). z.number) d.notes.change) (ap (λ (z : Replica). z.log) d.notes.change) (ap (λ (z : Replica). z.parts) d.notes.change) f)
knows-does s t (ev.Note k) r known w (inr (inl d)) f = subst (λ (u : Cluster). EachKnows u.replicas known) (sym d.unchanged) f
knows-does s t (ev.Note k) r known w (inr (inr d)) f = subst (λ (u : Cluster). EachKnows u.replicas known) (sym d.unchanged) f
knows-does s t (ev.Fetches k allowed) r known w d f =
    subst (λ (u : Cluster). EachKnows u.replicas known) (sym d.change) (quiet s k d.old (record d.old { fetches = allowed }) known w d.at refl refl refl f)

-- each event leaves known what was
pub knows-step : (s t : Cluster) (e : Event) (r : Reply) (known : ℕ → ℕ → Bool) → IsWhole s → Step s e r t → EachKnows s.replicas known → EachKnows t.replicas known
knows-step s t e r known w k f = subst (λ (u : Cluster). EachKnows u.replicas known) (sym k.stored) (knows-does s k.after e r known w k.does f)

-- an entry that a replica looked at is known there
pub learns-step : (s t : Cluster) (k i : ℕ) (comes : Applied) (known : ℕ → ℕ → Bool) → IsWhole s → Step s (ev.Apply k i) (rp.Applied comes) t → EachKnows s.replicas known → EachKnows t.replicas (learned known k i)
learns-step s t k i comes known w d f = subst (λ (u : Cluster). EachKnows u.replicas (learned known k i)) (sym d.stored) (looked d.does)
  where
    looked : Does s (ev.Apply k i) (rp.Applied comes) d.after → EachKnows d.after.replicas (learned known k i)
    looked (inl a) = applies-known s d.after k i (rp.Applied comes) known w a f
    looked (inr a) = let e = a.answer in absurd (cc)

-- ---- one replica knows more

-- it knows these places besides, and each other one what it knew
pub known-more : (s : Cluster) (x : Replica) (known : ℕ → ℕ → Bool) (more : ℕ → Bool) → IsWhole s → Has s.replicas x → Knows x (λ j. more j || known x.number j) → EachKnows s.replicas known → EachKnows s.replicas (λ k j. (nat_eq k x.number && more j) || known k j)
known-more s x known more w h here f z i = go (nat-same z.number x.number)
  where
    drops-left : (a b : Bool) (c : Bool) → a ≡ true → ((a && b) || c) ≡ true → (b || c) ≡ true
    drops-left true b c q r = r
    drops-left false b c q r = absurd (cc)

    drops-all : (a b : Bool) (c : Bool) → a ≡ false → ((a && b) || c) ≡ true → c ≡ true
    drops-all true b c q r = absurd (cc)
    drops-all false b c q r = r

    go : (z.number ≡ x.number) ⊎ (z.number ≡ x.number → ⊥) → Knows z (λ j. (nat_eq z.number x.number && more j) || known z.number j)
    go (inl q) =
        let t : x ≡ z = one-replica s x z w h i (sym q) in
        let n : nat_eq z.number x.number ≡ true = grind (arith, nat_tests) in
        knows-fewer z (λ j. more j || known z.number j) (λ j. (nat_eq z.number x.number && more j) || known z.number j) (λ j r. drops-left (nat_eq z.number x.number) (more j) (known z.number j) n r)
        (subst (λ (v : Replica). Knows v (λ j. more j || known v.number j)) t here)
    go (inr q) =
        let n : nat_eq z.number x.number ≡ false = other (nat_eq z.number x.number) refl q in
        knows-fewer z (known z.number) (λ j. (nat_eq z.number x.number && more j) || known z.number j) (λ j r. drops-all (nat_eq z.number x.number) (more j) (known z.number j) n r) (f z i)
      where
        other : (b : Bool) → nat_eq z.number x.number ≡ b → (z.number ≡ x.number → ⊥) → b ≡ false
        other false e n = refl
        other true e n = absurd (n (let u : z.number ≡ x.number = grind (arith, nat_tests) in u))

-- what is marked by neither is by none
pub neither : (a b : Bool) → a ≡ false → b ≡ false → (a || b) ≡ false
neither false false p q = refl
neither true b p q = absurd (cc)
neither false true p q = absurd (cc)

-- ---- a replica that has done its first entries

-- these are known there
pub done-known : (s : Cluster) (x : Replica) (known : ℕ → ℕ → Bool) (len : ℕ) → IsWhole s → Has s.replicas x → len ≤ length x.log → ((j : ℕ) → j < len → done_at x.done j ≡ true) → EachKnows s.replicas known → EachKnows s.replicas (learned_to known x.number len)
done-known s x known len w h b d f = known-more s x known (λ j. nat_lt j len) w h here f
  where
    not-below : (j n : ℕ) → n ≤ j → nat_lt j n ≡ false
    not-below j n q = grind (arith, nat_tests)

    either : (a b c : Bool) → (a || b) ≡ true → (a ≡ true → c ≡ true) → (b || c) ≡ true
    either true b c q g = right b c (g refl)
      where
        right : (b c : Bool) → c ≡ true → (b || c) ≡ true
        right true c q = refl
        right false c q = q
    either false b c q g = rw q refl

    -- the replica itself knows them
    here : Knows x (λ j. nat_lt j len || known x.number j)
    here = record {
      within = λ j l. neither (nat_lt j len) (known x.number j) (not-below j len (omega (arith, l, b))) ((f x h).within j l);
      fair = fair-fewer x.log (λ j. nat_lt j len || known x.number j) (λ j. known x.number j || done_at x.done j) (names_of x.parts)
          (λ j l q. either (nat_lt j len) (known x.number j) (done_at x.done j) q (λ c. d j (let u : j < len = grind (arith, nat_tests) in u)))
          (fair-both x.log (known x.number) (done_at x.done) (names_of x.parts) (f x h).fair (IsStanding.fair (Follows.stands (Each-at (Follows s) s.replicas x w.follow h))));
    }

-- all is known at a replica that has the whole log, and has done all of it
pub drained-known : (s : Cluster) (x : Replica) (known : ℕ → ℕ → Bool) → IsWhole s → Has s.replicas x → x.log ≡ s.table.log → IsDrained x → EachKnows s.replicas known → EachKnows s.replicas (learned_to known x.number (length s.table.log))
drained-known s x known w h e d f =
    let n = ap (λ (l : List Entry). length l) e in
    done-known s x known (length s.table.log) w h (omega (arith, n)) (λ j l. d j (omega (arith, l, n))) f

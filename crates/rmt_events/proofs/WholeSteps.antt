-- Each event leaves all whole.
use Rattle.std.proofs.Common.{ℕ, inl, inr, Bool, List, [], ◌∷◌, refl, sym, subst}
use Rattle.rmt_events.specs.Clusters.{Cluster}
use Rattle.rmt_events.specs.Whole.{Follows, IsWhole}
use Rattle.rmt_events.specs.ClusterChanges.{Declines}
use Rattle.rmt_events.specs.Steps.{Switches, Does, Step, After}
use Rattle.rmt_events.proofs.Moves.{TellsNoBlock, whole-stored, whole-replaced}
use Rattle.rmt_events.proofs.WholeTable.{whole-merge, whole-mutate, whole-mutation, whole-drop}
use Rattle.rmt_events.proofs.WholeReplica.{follower, whole-pulls}
use Rattle.rmt_events.proofs.Supplies.{whole-applies}
use Rattle.rmt_events.proofs.WholeTries.{whole-tries, whole-again, whole-stages, whole-ends, whole-accepts}
use Rattle.rmt_events.proofs.WholeSessions.{whole-kills, whole-restarts}
use Rattle.rmt_events.proofs.WholeNotes.{whole-notes}
use Rattle.rmt_events.specs.declared.event.Event.{Event}
use Rattle.rmt_events.specs.declared.reply.Reply.{Reply}
use Rattle.rmt_events.specs.declared.step_refused.StepRefused.{StepRefused}
use Rattle.rmt_events.specs.declared.event.Event.TheVariants as ev
use Rattle.rmt_events.specs.declared.reply.Reply.TheVariants as rp

-- a step's state with its event
abbrev pub Stored : Cluster → Event → Reply → Type 0
Stored t e r = IsWhole (record t { events = (e, r) ∷ t.events })

declined : (s t : Cluster) (e : Event) (r : Reply) (Cause : StepRefused → Type 0) → IsWhole s → Declines s Cause r t → ((why : StepRefused) → TellsNoBlock e (rp.Refused why)) → Stored t e r
declined s t e r Cause w d f =
    subst (λ (x : Reply). Stored t e x) (sym d.answer) (whole-stored t e (rp.Refused d.why) (f d.why) (subst IsWhole (sym d.unchanged) w))

-- the switch of fetches
whole-switched : (s t : Cluster) (k : ℕ) (allowed : Bool) (r : Reply) → IsWhole s → Switches s k allowed r t → IsWhole t
whole-switched s t k allowed r w a =
    let f = follower s k a.old w a.at in
    subst IsWhole (sym a.change) (whole-replaced s k a.old (record a.old { fetches = allowed }) w a.at refl (λ b h. h) (same f))
  where
    same : Follows s a.old → Follows s (record a.old { fetches = allowed })
    same f = record {
      stands = record { lawful = f.stands.lawful; marks = f.stands.marks; fair = f.stands.fair; parts = f.stands.parts; notes = f.stands.notes };
      prefix = f.prefix;
      session = f.session;
      sources = λ p n need digest h. elim (f.sources p n need digest h) [
        | inl k ↦ inl (record { block = k.block; staged = record { is_in = k.staged.is_in; partition = k.staged.partition }; same_id = k.same_id })
        | inr k ↦ inr k
      ];
      blocks = f.blocks;
      waiting = f.waiting;
    }

pub whole-does : (s t : Cluster) (e : Event) (r : Reply) → IsWhole s → Does s e r t → Stored t e r
whole-does s t (ev.Allocate k b need) r w (inl d) = whole-tries s t (ev.Allocate k b need) k _ need r (record { offers = λ rest i n a. refl; commits = λ rest i n j. refl }) w d
whole-does s t (ev.Allocate k b need) r w (inr d) = declined s t (ev.Allocate k b need) r _ w d (λ why. record { commits_none = λ rest i. refl; offers_none = λ rest a. refl })
whole-does s t (ev.Again id) r w (inl d) = whole-stored t (ev.Again id) r (record { commits_none = λ rest i. refl; offers_none = λ rest a. refl }) (whole-again s t id r w d)
whole-does s t (ev.Again id) r w (inr d) = declined s t (ev.Again id) r _ w d (λ why. record { commits_none = λ rest i. refl; offers_none = λ rest a. refl })
whole-does s t (ev.Stage id) r w (inl d) = whole-stored t (ev.Stage id) r (record { commits_none = λ rest i. refl; offers_none = λ rest a. refl }) (whole-stages s t id r w d)
whole-does s t (ev.Stage id) r w (inr d) = declined s t (ev.Stage id) r _ w d (λ why. record { commits_none = λ rest i. refl; offers_none = λ rest a. refl })
whole-does s t (ev.Commit id) r w (inl d) = whole-accepts s t id r w d
whole-does s t (ev.Commit id) r w (inr (inl d)) =
    subst (λ (x : Reply). Stored t (ev.Commit id) x) (sym d.answer) (whole-stored t (ev.Commit id) (rp.Refused d.why) (record { commits_none = λ rest i. refl; offers_none = λ rest a. refl }) (whole-ends s t id w d.ends))
whole-does s t (ev.Commit id) r w (inr (inr d)) = declined s t (ev.Commit id) r _ w d (λ why. record { commits_none = λ rest i. refl; offers_none = λ rest a. refl })
whole-does s t (ev.Abandon id) r w (inl d) = whole-stored t (ev.Abandon id) r (record { commits_none = λ rest i. refl; offers_none = λ rest a. refl }) (whole-ends s t id w d.0)
whole-does s t (ev.Abandon id) r w (inr d) = declined s t (ev.Abandon id) r _ w d (λ why. record { commits_none = λ rest i. refl; offers_none = λ rest a. refl })
whole-does s t (ev.Pull k) r w (inl d) = whole-stored t (ev.Pull k) r (record { commits_none = λ rest i. refl; offers_none = λ rest a. refl }) (whole-pulls s t k w d.at)
whole-does s t (ev.Pull k) r w (inr d) = declined s t (ev.Pull k) r _ w d (λ why. record { commits_none = λ rest i. refl; offers_none = λ rest a. refl })
whole-does s t (ev.Apply k i) r w (inl d) = whole-stored t (ev.Apply k i) r (record { commits_none = λ rest i. refl; offers_none = λ rest a. refl }) (whole-applies s t k i r w d)
whole-does s t (ev.Apply k i) r w (inr d) = declined s t (ev.Apply k i) r _ w d (λ why. record { commits_none = λ rest i. refl; offers_none = λ rest a. refl })
whole-does s t (ev.Merge k sources) r w (inl d) = whole-stored t (ev.Merge k sources) r (record { commits_none = λ rest i. refl; offers_none = λ rest a. refl }) (whole-merge s t d.name sources d.count w d.appends.at)
whole-does s t (ev.Merge k sources) r w (inr d) = declined s t (ev.Merge k sources) r _ w d (λ why. record { commits_none = λ rest i. refl; offers_none = λ rest a. refl })
whole-does s t (ev.Mutate k part upto) r w (inl d) = whole-stored t (ev.Mutate k part upto) r (record { commits_none = λ rest i. refl; offers_none = λ rest a. refl }) (whole-mutate s t part d.name upto d.count d.mcount w d.appends.at)
whole-does s t (ev.Mutate k part upto) r w (inr d) = declined s t (ev.Mutate k part upto) r _ w d (λ why. record { commits_none = λ rest i. refl; offers_none = λ rest a. refl })
whole-does s t (ev.CreateMutation command) r w (inl d) = whole-stored t (ev.CreateMutation command) r (record { commits_none = λ rest i. refl; offers_none = λ rest a. refl }) (whole-mutation s t command w d.at)
whole-does s t (ev.CreateMutation command) r w (inr d) = declined s t (ev.CreateMutation command) r _ w d (λ why. record { commits_none = λ rest i. refl; offers_none = λ rest a. refl })
whole-does s t (ev.DropPartition p) r w (inl d) = whole-stored t (ev.DropPartition p) r (record { commits_none = λ rest i. refl; offers_none = λ rest a. refl }) (whole-drop s t p d.0 w d.1.at)
whole-does s t (ev.DropPartition p) r w (inr (inl d)) = whole-stored t (ev.DropPartition p) r (record { commits_none = λ rest i. refl; offers_none = λ rest a. refl }) (subst IsWhole (sym d.unchanged) w)
whole-does s t (ev.DropPartition p) r w (inr (inr d)) = declined s t (ev.DropPartition p) r _ w d (λ why. record { commits_none = λ rest i. refl; offers_none = λ rest a. refl })
whole-does s t (ev.Kill k) r w d = whole-stored t (ev.Kill k) r (record { commits_none = λ rest i. refl; offers_none = λ rest a. refl }) (whole-kills s t k r w d)
whole-does s t (ev.Restart k) r w d = whole-stored t (ev.Restart k) r (record { commits_none = λ rest i. refl; offers_none = λ rest a. refl }) (whole-restarts s t k r w d)
whole-does s t (ev.Note k) r w (inl d) = whole-stored t (ev.Note k) r (record { commits_none = λ rest i. refl; offers_none = λ rest a. refl }) (whole-notes s t k r w d)
whole-does s t (ev.Note k) r w (inr (inl d)) = whole-stored t (ev.Note k) r (record { commits_none = λ rest i. refl; offers_none = λ rest a. refl }) (subst IsWhole (sym d.unchanged) w)
whole-does s t (ev.Note k) r w (inr (inr d)) = declined s t (ev.Note k) r _ w d (λ why. record { commits_none = λ rest i. refl; offers_none = λ rest a. refl })
whole-does s t (ev.Fetches k allowed) r w d = whole-stored t (ev.Fetches k allowed) r (record { commits_none = λ rest i. refl; offers_none = λ rest a. refl }) (whole-switched s t k allowed r w d)

-- each event leaves all whole
pub whole-step : (s t : Cluster) (e : Event) (r : Reply) → IsWhole s → Step s e r t → IsWhole t
whole-step s t e r w k = subst IsWhole (sym k.stored) (whole-does s k.after e r w k.does)

-- so does each list of events
pub whole-after : (s t : Cluster) (events : List (Event × Reply)) → IsWhole s → After s events t → IsWhole t
whole-after s t [] w a = subst IsWhole (sym a) w
whole-after s t (x ∷ rest) w a = whole-step a.0 t x.0 x.1 (whole-after s a.0 rest w a.1) a.2

-- WAIT MUTATION, part by part: one more part is mutated, or an entry more would pass a limit; and what the cluster shows then.
use Rattle.std.proofs.Common.{◌≡◌, ℕ, ◌≤◌, inl, inr, ◌&&◌, ◌||◌, Bool, true, false, List, [], ◌∷◌, ◌++◌, length, refl, sym, ap, subst, arith, ◌∙◌, nat_eq, nat_lt}
use Rattle.std.proofs.Math.Path.{fun_ext}
use Rattle.std.proofs.lemmas.Bool.Decides.{nat_tests}
use Rattle.std.specs.declared.option.Option.{Option}
use Rattle.std.specs.declared.option.Option.TheVariants.{Some, None}
use Rattle.rmt_values.specs.declared.checked_mutation.CheckedMutation.{CheckedMutation}
use Rattle.rmt_values.specs.declared.limit.Limit.{Limit}
use Rattle.rmt_names.specs.Names.{Name}
use Rattle.rmt_entries.specs.declared.entry.Entry.{Entry}
use Rattle.rmt_entries.specs.declared.entry.Entry.TheVariants.{Mutate, Mutation}
use Rattle.rmt_model.specs.Words.{Each}
use Rattle.rmt_model.specs.Lawful.{Lawful, entry_at}
use Rattle.rmt_model.specs.EntryLimits.{worker_limit}
use Rattle.rmt_events.specs.Views.{Replica, Table}
use Rattle.rmt_events.specs.Clusters.{Cluster, committed_at, blocks_in}
use Rattle.rmt_events.specs.Whole.{IsWhole}
use Rattle.rmt_events.specs.ClusterChanges.{IsUp}
use Rattle.rmt_events.specs.LogEvents.{IsMutable, NoMutate}
use Rattle.rmt_events.specs.Steps.{Does, Step}
use Rattle.rmt_events.proofs.Copies.{entry-behind}
use Rattle.rmt_events.proofs.Moves.{blocks-same}
use Rattle.rmt_events.proofs.WholeTries.{one-replica}
use Rattle.rmt_model.specs.Quorum.{Quorum, quorum_after_note}
use Rattle.rmt_statement_model.proofs.NoteRows.{note-again}
use Rattle.rmt_statement_model.specs.TableStates.{TableState, learned_to, synced}
use Rattle.rmt_statement_model.specs.Shows.{Shows, ups, IsUpToDate}
use Rattle.rmt_statement_model.specs.BackgroundWork.{HadRoom}
use Rattle.rmt_statement_model.specs.Waits.{MutatesUpTo, MutatesOrComes, MutatesParts, NonePending, SomePending, WaitsFor, LacksEntries}
use Rattle.rmt_statement_model.proofs.SwitchLaws.{switch-step}
use Rattle.rmt_statement_model.proofs.KnowsLaws.{knows-step}
use Rattle.rmt_statement_model.proofs.UpLaws.{not-down}
use Rattle.rmt_statement_model.proofs.ShownSteps.{shows-quiet}
use Rattle.rmt_statement_model.proofs.MutationIds.{one-place}
use Rattle.rmt_reply.specs.declared.refusal.Refusal.TheVariants.{LimitReached}
use Rattle.rmt_events.specs.declared.event.Event.TheVariants as ev
use Rattle.rmt_events.specs.declared.reply.Reply.{Reply}
use Rattle.rmt_events.specs.declared.reply.Reply.TheVariants as rp
use Rattle.rmt_events.specs.declared.step_refused.StepRefused.{StepRefused}
use Rattle.rmt_events.specs.declared.step_refused.StepRefused.TheVariants as rf

-- ---- what is answered

-- the mutate takes a place, or would pass a limit
abbrev pub IsMutateReply : Reply → Type 0
IsMutateReply (rp.Entry i) = Unit {0}
IsMutateReply (rp.Refused (rf.LimitReached limit value)) = Unit {0}
IsMutateReply reply = ⊥

-- the replica of the number has the whole log
own-log : (s : Cluster) (k : ℕ) (x : Replica) → IsWhole s → IsUpToDate s k → IsUp s k x → x.log ≡ s.table.log
own-log s k x w d u = subst (λ (z : Replica). z.log ≡ s.table.log) (one-replica s d.replica x w d.at.is_in u.at.is_in (d.at.number ∙ sym u.at.number)) d.whole

-- a replica that is up to date isn't refused but for a limit
refused-mutate : (s : Cluster) (k : ℕ) (old : Name) (upto : ℕ) (why : StepRefused) → IsWhole s → ups s k ≡ true → IsUpToDate s k → IsMutable s.table.log old upto → NoMutate s k old upto why → IsMutateReply (rp.Refused why)
refused-mutate s k old upto rf.Down w up d m c = absurd (not-down s k w up c)
refused-mutate s k old upto rf.NotLive w up d m c = absurd (c.2 (subst (λ (l : List Entry). IsMutable l old upto) (sym (own-log s k c.0 w d c.1)) m))
refused-mutate s k old upto (rf.LogMoved seen found) w up d m c =
    let e = ap (λ (l : List Entry). length l) (own-log s k c.0 w d c.1) in
    let p = c.3.0 in
    let q = c.3.1 in
    let l = c.3.2 in
    absurd (omega (arith, e, p, q, l))
refused-mutate s k old upto (rf.LimitReached limit value) w up d m c = tt
refused-mutate s k old upto why w up d m c = absurd c.3

-- nothing else is answered
pub mutate-reply : (s u : Cluster) (k : ℕ) (old : Name) (upto : ℕ) (reply : Reply) → IsWhole s → ups s k ≡ true → IsUpToDate s k → IsMutable s.table.log old upto → Step s (ev.Mutate k old upto) reply u → IsMutateReply reply
mutate-reply s u k old upto reply w up d m st = go st.does
  where
    go : Does s (ev.Mutate k old upto) reply st.after → IsMutateReply reply
    go (inl a) = subst (λ (y : Reply). IsMutateReply y) (sym a.appends.answer) tt
    go (inr a) = subst (λ (y : Reply). IsMutateReply y) (sym a.answer) (refused-mutate s k old upto a.why w up d m a.cause)

-- ---- one part is mutated

-- the log has the part's Mutate as its newest entry
pub record Mutated (s u : Cluster) (old : Name) (upto : ℕ) : Type 0 where
  pub name : Name
  pub count : ℕ
  pub mcount : ℕ
  pub log : u.table.log ≡ Mutate old name upto count mcount ∷ s.table.log
  pub schema : u.table.schema ≡ s.table.schema
  pub within : worker_limit s.table.log ≡ None

-- it does, where a place is answered
pub mutated : (s u : Cluster) (k : ℕ) (old : Name) (upto place : ℕ) → Step s (ev.Mutate k old upto) (rp.Entry place) u → Mutated s u old upto
mutated s u k old upto place st = go st.does
  where
    go : Does s (ev.Mutate k old upto) (rp.Entry place) st.after → Mutated s u old upto
    go (inl a) =
        let e : u.table ≡ a.appends.at.new = ap (λ (x : Cluster). x.table) st.stored ∙ ap (λ (x : Cluster). x.table) a.appends.at.change in
        record {
          name = a.name;
          count = a.count;
          mcount = a.mcount;
          log = ap (λ (x : Table). x.log) e ∙ ap (λ (x : Table). x.log) a.appends.at.does.change;
          schema = ap (λ (x : Table). x.schema) e ∙ ap (λ (x : Table). x.schema) a.appends.at.does.change;
          within = a.appends.at.does.within;
        }
    go (inr a) = let q = a.answer in absurd (cc)

-- the cluster shows the table with the Mutate
pub mutate-shows : (s u : Cluster) (k : ℕ) (old : Name) (upto place : ℕ) → IsWhole s → Step s (ev.Mutate k old upto) (rp.Entry place) u → (m : Mutated s u old upto) → (t : TableState) → Shows s t → Shows u (record t { log = Mutate old m.name upto m.count m.mcount ∷ t.log })
mutate-shows s u k old upto place w st m t h = go st.does
  where
    go : Does s (ev.Mutate k old upto) (rp.Entry place) st.after → Shows u (record t { log = Mutate old m.name upto m.count m.mcount ∷ t.log })
    go (inl a) = record {
      table = record {
        schema = h.table.schema ∙ sym m.schema;
        log = ap (λ (l : List Entry). Mutate old m.name upto m.count m.mcount ∷ l) h.table.log ∙ sym m.log;
        next = h.table.next ∙ sym (ap (λ (x : Cluster). x.table.next) st.stored ∙ (ap (λ (x : Cluster). x.table.next) a.appends.at.change ∙ ap (λ (x : Table). x.next) a.appends.at.does.change));
        quorum = h.table.quorum ∙ sym (ap (λ (x : Cluster). x.table.quorum) st.stored ∙ (ap (λ (x : Cluster). x.table.quorum) a.appends.at.change ∙ ap (λ (x : Table). x.quorum) a.appends.at.does.change));
        fetching = h.table.fetching ∙ sym (switch-step s u (ev.Mutate k old upto) (rp.Entry place) w tt st);
        knows = knows-step s u (ev.Mutate k old upto) (rp.Entry place) t.known w st h.table.knows;
      };
      blocks = h.blocks ∙ (sym (blocks-same s.table.log s.events u.events (λ i l. ap (λ (x : Cluster). committed_at x.events i) st.stored ∙ ap (λ (x : Cluster). committed_at x.events i) a.appends.at.change)) ∙ ap (λ (l : List Entry). blocks_in l u.events) (sym m.log));
    }
    go (inr a) = let q = a.answer in absurd (cc)

-- ---- none is, for a limit

-- one more entry would pass the limit, and what is shown stays
pub refused-shows : (s u : Cluster) (k : ℕ) (old : Name) (upto : ℕ) (limit : Limit) (value : ℕ) → IsWhole s → Step s (ev.Mutate k old upto) (rp.Refused (rf.LimitReached limit value)) u → (t : TableState) → Shows s t → (worker_limit t.log ≡ Some (limit, value)) × Shows u t
refused-shows s u k old upto limit value w st t h = go st.does
  where
    go : Does s (ev.Mutate k old upto) (rp.Refused (rf.LimitReached limit value)) st.after → (worker_limit t.log ≡ Some (limit, value)) × Shows u t
    go (inl a) = let q = a.appends.answer in absurd (cc)
    go (inr a) =
        let e : a.why ≡ rf.LimitReached limit value = let q = a.answer in cc in
        let c = subst (λ (y : StepRefused). NoMutate s k old upto y) e a.cause in (
          ap worker_limit h.table.log ∙ c.3.1,
          shows-quiet s u (ev.Mutate k old upto) (rp.Refused (rf.LimitReached limit value)) t w tt st (ap (λ (x : Cluster). x.table) a.unchanged) (ap (λ (x : Cluster). x.events) a.unchanged) (λ xs i. refl) h,
        )

-- ---- several parts

-- parts are mutated up to the mutation of an id, and no entry comes in between; the replica is brought up to date before and after
pub record MutatesSynced (t : TableState) (r id : ℕ) (u : TableState) : Type 0 where
  pub numbers : List (Option ℕ × ℕ)
  pub command : CheckedMutation
  pub place : ℕ
  pub at : entry_at t.log place ≡ Some (Mutation id numbers command)
  pub gained : List Entry
  pub mutates : Each (MutatesUpTo t.log place id) gained
  pub room : HadRoom gained t.log
  pub lawful : Lawful t.schema (gained ++ t.log)
  pub change : u ≡ synced r (record t { log = gained ++ t.log })

-- none is mutated yet
pub mutates-none : (t : TableState) (r id place : ℕ) (numbers : List (Option ℕ × ℕ)) (command : CheckedMutation) → Lawful t.schema t.log → entry_at t.log place ≡ Some (Mutation id numbers command) → MutatesSynced t r id (synced r t)
mutates-none t r id place numbers command l e = record { numbers = numbers; command = command; place = place; at = e; gained = []; mutates = tt; room = tt; lawful = l; change = refl }

-- what is known after a second sync is what is known after the last one alone
learned-twice : (known : ℕ → ℕ → Bool) (r n m : ℕ) → n ≤ m → learned_to (learned_to known r n) r m ≡ learned_to known r m
learned-twice known r n m l = fun_ext (λ s. fun_ext (λ j. same (nat_eq s r) (nat_lt j n) (nat_lt j m) (known s j) (λ e. grind (arith, nat_tests))))
  where
    same : (a b d c : Bool) → (b ≡ true → d ≡ true) → ((a && d) || ((a && b) || c)) ≡ ((a && d) || c)
    same false b d c f = refl
    same true b true c f = refl
    same true false false c f = refl
    same true true false c f = let e = f refl in absurd (cc)

-- one more part is
pub mutates-more : (t u v : TableState) (r id place : ℕ) (e : Entry) → (m : MutatesSynced t r id u) → MutatesUpTo t.log m.place id e → worker_limit u.log ≡ None → Lawful t.schema (e ∷ u.log) → v ≡ synced r (record u { log = e ∷ u.log }) → MutatesSynced t r id v
mutates-more t u v r id place e m h w l c =
    record {
      numbers = m.numbers;
      command = m.command;
      place = m.place;
      at = m.at;
      gained = e ∷ m.gained;
      mutates = (h, m.mutates);
      room = (sym (ap (λ (x : TableState). worker_limit x.log) m.change) ∙ w, m.room);
      lawful = subst (λ (x : List Entry). Lawful t.schema (e ∷ x)) (ap (λ (x : TableState). x.log) m.change) l;
      change = c ∙ (ap (λ (x : TableState). synced r (record x { log = e ∷ x.log })) m.change
          ∙ (ap (λ (f : ℕ → ℕ → Bool). record t { log = e ∷ (m.gained ++ t.log); known = f; quorum = quorum_after_note r (quorum_after_note r t.quorum) })
          (learned-twice t.known r (length (m.gained ++ t.log)) (length (e ∷ (m.gained ++ t.log))) (omega arith))
          ∙ ap (λ (q : Quorum). record t { log = e ∷ (m.gained ++ t.log); known = learned_to t.known r (length (e ∷ (m.gained ++ t.log))); quorum = q }) (note-again r t.quorum)));
    }

-- the place that they are mutated up to is that of the mutation in the longer log
pub mutates-place : (t u : TableState) (r id place : ℕ) (numbers : List (Option ℕ × ℕ)) (command : CheckedMutation) → (m : MutatesSynced t r id u) → entry_at u.log place ≡ Some (Mutation id numbers command) → m.place ≡ place
mutates-place t u r id place numbers command m e =
    one-place t.schema (m.gained ++ t.log) m.place place id m.numbers numbers m.command command m.lawful
    (entry-behind m.gained t.log m.place (Mutation id m.numbers m.command) m.at)
    (subst (λ (l : List Entry). entry_at l place ≡ Some (Mutation id numbers command)) (ap (λ (x : TableState). x.log) m.change) e)

-- ---- as a statement has it

each-own : (w : Bool) (log : List Entry) (place id : ℕ) (es : List Entry) → Each (MutatesUpTo log place id) es → Each (MutatesOrComes w log place id) es
each-own w log place id [] e = tt
each-own w log place id (x ∷ es) e = (inl e.0, each-own w log place id es e.1)

-- the table before its replica is brought up to date at the end
abbrev pub mutated_log : TableState → List Entry → TableState
mutated_log t gained = record t { log = gained ++ t.log }

pub parts-mutated : (w : Bool) (t u : TableState) (r id : ℕ) → (m : MutatesSynced t r id u) → MutatesParts w t id (mutated_log t m.gained)
parts-mutated w t u r id m = record {
  numbers = m.numbers;
  command = m.command;
  place = m.place;
  at = m.at;
  gained = m.gained;
  mutates = each-own w t.log m.place id m.gained m.mutates;
  room = m.room;
  lawful = m.lawful;
  noted = [];
  by_workers = inl refl;
  change = refl;
}

-- no part waits
pub waits-all : (w : Bool) (t u : TableState) (r id : ℕ) → MutatesSynced t r id u → NonePending u.log id → WaitsFor w t r id u
waits-all w t u r id m n = record {
  mid = mutated_log t m.gained;
  mutates = parts-mutated w t u r id m;
  carried = subst (λ (x : TableState). NonePending x.log id) m.change n;
  end = mutated_log t m.gained;
  rests = inl refl;
  change = m.change;
}

-- a part waits still, and one more entry would pass a limit
pub waits-some : (w : Bool) (t u : TableState) (r id : ℕ) (limit : Limit) (value : ℕ) → MutatesSynced t r id u → SomePending u.log id → worker_limit u.log ≡ Some (limit, value) → LacksEntries w t r id (LimitReached limit value) u
waits-some w t u r id limit value m n e = record {
  mid = mutated_log t m.gained;
  mutates = parts-mutated w t u r id m;
  waits = subst (λ (x : TableState). SomePending x.log id) m.change n;
  limit = limit;
  value = value;
  reached = subst (λ (x : TableState). worker_limit x.log ≡ Some (limit, value)) m.change e;
  reply = refl;
  end = mutated_log t m.gained;
  rests = inl refl;
  change = m.change;
}

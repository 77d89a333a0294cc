-- A client's steps that change a table at once: a mutation, a drop, and the switch of fetches.
use Rattle.std.proofs.Common.{◌≡◌, ℕ, ◌<◌, Bool, List, ◌++◌, refl}
use Rattle.std.specs.declared.option.Option.{Option}
use Rattle.std.specs.declared.option.Option.TheVariants.{Some, None}
use Rattle.rmt_values.specs.declared.limit.Limit.{Limit}
use Rattle.rmt_values.specs.declared.checked_mutation.CheckedMutation.{CheckedMutation}
use Rattle.rmt_entries.specs.declared.entry.Entry.{Entry}
use Rattle.rmt_model.specs.Lawful.{mutation_count}
use Rattle.rmt_model.specs.BlockNumbers.{next_number}
use Rattle.rmt_model.specs.EntryLimits.{mutation_limit, drop_limit}
use Rattle.rmt_events.specs.Views.{Block}
use Rattle.rmt_reply.specs.declared.refusal.Refusal.TheVariants.{LimitReached}
use Rattle.rmt_statement_model.specs.TableStates.{TableState, with_switch}
use Rattle.rmt_statement_model.specs.Mutations.{Mutates, LacksMutation, with_mutation}
use Rattle.rmt_statement_model.specs.Drops.{Drops, DropsNothing, LacksDrop, with_drop}
use Rattle.rmt_clients.specs.Clients.{Client, known_table, KnowsTable, Fits, seeing, ChangesInto, RestsAnd, SeesHere}
use Rattle.rmt_clients.proofs.ClientRests.{fits-all, knows-fits, rests-and}

-- ---- ALTER

-- the client has seen the whole log, a mutation passes no limit, and the client knows it then
pub record MutatesHere (p : Client) (command : CheckedMutation) (q : Client) : Type 0 where
  pub room : mutation_limit p.next p.log ≡ None
  pub after : KnowsTable q (with_mutation (known_table p) command)

pub mutated-here : (O : Block → Type 0) (p : Client) (command : CheckedMutation) (q : Client) → MutatesHere p command q → (t : TableState) → Fits O p t → ChangesInto O q (Mutates t command (mutation_count p.log))
mutated-here O p command q h = fits-all O p (λ (t : TableState). ChangesInto O q (Mutates t command (mutation_count p.log))) (λ blocks a. record {
  after = with_mutation (record (known_table p) { blocks = blocks }) command;
  change = record { room = h.room; numbered = refl; change = refl };
  fits = knows-fits O q (with_mutation (known_table p) command) blocks h.after a;
})

-- a mutation is made among workers
pub mutated : (O : Block → Type 0) (p : Client) (command : CheckedMutation) (gained : List Entry) (noted : List ℕ) (q : Client) → SeesHere p gained → MutatesHere (seeing gained noted p) command q → (t : TableState) → Fits O p t → RestsAnd O q (λ at u. Mutates at command (mutation_count (gained ++ p.log)) u) t
mutated O p command gained noted q s h = rests-and O p q gained noted (λ at u. Mutates at command (mutation_count (gained ++ p.log)) u) s (mutated-here O (seeing gained noted p) command q h)

-- the client has seen the whole log, and a mutation would pass a limit
pub record LacksMutationHere (p : Client) (limit : Limit) (value : ℕ) (q : Client) : Type 0 where
  pub reached : mutation_limit p.next p.log ≡ Some (limit, value)
  pub after : KnowsTable q (known_table p)

pub lacks-mutation-here : (O : Block → Type 0) (p : Client) (limit : Limit) (value : ℕ) (q : Client) → LacksMutationHere p limit value q → (t : TableState) → Fits O p t → ChangesInto O q (LacksMutation t (LimitReached limit value))
lacks-mutation-here O p limit value q h = fits-all O p (λ (t : TableState). ChangesInto O q (LacksMutation t (LimitReached limit value))) (λ blocks a. record {
  after = record (known_table p) { blocks = blocks };
  change = record { limit = limit; value = value; reached = h.reached; reply = refl; unchanged = refl };
  fits = knows-fits O q (known_table p) blocks h.after a;
})

-- a mutation is refused among workers
pub lacks-mutation : (O : Block → Type 0) (p : Client) (limit : Limit) (value : ℕ) (gained : List Entry) (noted : List ℕ) (q : Client) → SeesHere p gained → LacksMutationHere (seeing gained noted p) limit value q → (t : TableState) → Fits O p t → RestsAnd O q (λ at u. LacksMutation at (LimitReached limit value) u) t
lacks-mutation O p limit value gained noted q s h = rests-and O p q gained noted (λ at u. LacksMutation at (LimitReached limit value) u) s (lacks-mutation-here O (seeing gained noted p) limit value q h)

-- ---- DROP PARTITION

-- the client has seen the whole log, the partition exists, and a drop passes no limit; the client knows it then, and that it is
-- known at the replica
pub record DropsHere (p : Client) (r : ℕ) (o : Option ℕ) (q : Client) : Type 0 where
  pub exists : 0 < next_number p.next o
  pub room : drop_limit p.next p.log o ≡ None
  pub after : KnowsTable q (with_drop (known_table p) r o)

pub dropped-here : (O : Block → Type 0) (p : Client) (r : ℕ) (o : Option ℕ) (q : Client) → DropsHere p r o q → (t : TableState) → Fits O p t → ChangesInto O q (Drops t r o (next_number p.next o))
dropped-here O p r o q h = fits-all O p (λ (t : TableState). ChangesInto O q (Drops t r o (next_number p.next o))) (λ blocks a. record {
  after = with_drop (record (known_table p) { blocks = blocks }) r o;
  change = record { exists = h.exists; room = h.room; number = refl; change = refl };
  fits = knows-fits O q (with_drop (known_table p) r o) blocks h.after a;
})

-- a partition is dropped among workers
pub dropped : (O : Block → Type 0) (p : Client) (r : ℕ) (o : Option ℕ) (gained : List Entry) (noted : List ℕ) (q : Client) → SeesHere p gained → DropsHere (seeing gained noted p) r o q → (t : TableState) → Fits O p t → RestsAnd O q (λ at u. Drops at r o (next_number p.next o) u) t
dropped O p r o gained noted q s h = rests-and O p q gained noted (λ at u. Drops at r o (next_number p.next o) u) s (dropped-here O (seeing gained noted p) r o q h)

-- the partition doesn't exist
pub record DropsNothingHere (p : Client) (o : Option ℕ) (q : Client) : Type 0 where
  pub absent : next_number p.next o ≡ 0
  pub after : KnowsTable q (known_table p)

pub drops-nothing-here : (O : Block → Type 0) (p : Client) (o : Option ℕ) (q : Client) → DropsNothingHere p o q → (t : TableState) → Fits O p t → ChangesInto O q (DropsNothing t o 0)
drops-nothing-here O p o q h = fits-all O p (λ (t : TableState). ChangesInto O q (DropsNothing t o 0)) (λ blocks a. record {
  after = record (known_table p) { blocks = blocks };
  change = record { absent = h.absent; number = refl; unchanged = refl };
  fits = knows-fits O q (known_table p) blocks h.after a;
})

-- nothing is dropped among workers
pub drops-nothing : (O : Block → Type 0) (p : Client) (o : Option ℕ) (gained : List Entry) (noted : List ℕ) (q : Client) → SeesHere p gained → DropsNothingHere (seeing gained noted p) o q → (t : TableState) → Fits O p t → RestsAnd O q (λ at u. DropsNothing at o 0 u) t
drops-nothing O p o gained noted q s h = rests-and O p q gained noted (λ at u. DropsNothing at o 0 u) s (drops-nothing-here O (seeing gained noted p) o q h)

-- the client has seen the whole log, the partition exists, and a drop would pass a limit
pub record LacksDropHere (p : Client) (o : Option ℕ) (limit : Limit) (value : ℕ) (q : Client) : Type 0 where
  pub exists : 0 < next_number p.next o
  pub reached : drop_limit p.next p.log o ≡ Some (limit, value)
  pub after : KnowsTable q (known_table p)

pub lacks-drop-here : (O : Block → Type 0) (p : Client) (o : Option ℕ) (limit : Limit) (value : ℕ) (q : Client) → LacksDropHere p o limit value q → (t : TableState) → Fits O p t → ChangesInto O q (LacksDrop t o (LimitReached limit value))
lacks-drop-here O p o limit value q h = fits-all O p (λ (t : TableState). ChangesInto O q (LacksDrop t o (LimitReached limit value))) (λ blocks a. record {
  after = record (known_table p) { blocks = blocks };
  change = record { exists = h.exists; limit = limit; value = value; reached = h.reached; reply = refl; unchanged = refl };
  fits = knows-fits O q (known_table p) blocks h.after a;
})

-- a drop is refused among workers
pub lacks-drop : (O : Block → Type 0) (p : Client) (o : Option ℕ) (limit : Limit) (value : ℕ) (gained : List Entry) (noted : List ℕ) (q : Client) → SeesHere p gained → LacksDropHere (seeing gained noted p) o limit value q → (t : TableState) → Fits O p t → RestsAnd O q (λ at u. LacksDrop at o (LimitReached limit value) u) t
lacks-drop O p o limit value gained noted q s h = rests-and O p q gained noted (λ at u. LacksDrop at o (LimitReached limit value) u) s (lacks-drop-here O (seeing gained noted p) o limit value q h)

-- ---- FETCHES

-- the client knows the switch then
pub record SwitchesHere (p : Client) (r : ℕ) (allowed : Bool) (q : Client) : Type 0 where
  pub after : KnowsTable q (with_switch (known_table p) r allowed)

pub switched-here : (O : Block → Type 0) (p : Client) (r : ℕ) (allowed : Bool) (q : Client) → SwitchesHere p r allowed q → (t : TableState) → Fits O p t → ChangesInto O q (λ u. u ≡ with_switch t r allowed)
switched-here O p r allowed q h = fits-all O p (λ (t : TableState). ChangesInto O q (λ u. u ≡ with_switch t r allowed)) (λ blocks a. record {
  after = with_switch (record (known_table p) { blocks = blocks }) r allowed;
  change = refl;
  fits = knows-fits O q (with_switch (known_table p) r allowed) blocks h.after a;
})

-- a replica may fetch from now on, or not, among workers
pub switched : (O : Block → Type 0) (p : Client) (r : ℕ) (allowed : Bool) (gained : List Entry) (noted : List ℕ) (q : Client) → SeesHere p gained → SwitchesHere (seeing gained noted p) r allowed q → (t : TableState) → Fits O p t → RestsAnd O q (λ at u. u ≡ with_switch at r allowed) t
switched O p r allowed gained noted q s h = rests-and O p q gained noted (λ at u. u ≡ with_switch at r allowed) s (switched-here O (seeing gained noted p) r allowed q h)

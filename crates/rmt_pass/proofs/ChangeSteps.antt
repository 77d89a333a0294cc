-- A client's steps that append an entry of its own: a mutation, and a drop.
use Rattle.std.proofs.Common.{◌≡◌, ℕ, ◌+◌, ◌<◌, inl, inr, List, ◌∷◌, length, sym, ap, subst, ◌∙◌}
use Rattle.std.specs.declared.option.Option.{Option}
use Rattle.std.specs.declared.option.Option.TheVariants.{Some}
use Rattle.std.specs.declared.result.Result.TheVariants.{Ok, Err}
use Rattle.rmt_values.specs.declared.limit.Limit.{Limit}
use Rattle.rmt_values.specs.declared.checked_mutation.CheckedMutation.{CheckedMutation}
use Rattle.rmt_entries.specs.declared.entry.Entry.{Entry}
use Rattle.rmt_entries.specs.declared.entry.Entry.TheVariants.{Mutation, DropRange}
use Rattle.rmt_model.specs.Lawful.{mutation_count}
use Rattle.rmt_model.specs.BlockNumbers.{next_number, with_next, next_numbers_after}
use Rattle.rmt_model.specs.Quorum.{Quorum, quorum_after_drop}
use Rattle.rmt_model.specs.EntryLimits.{mutation_limit, drop_limit}
use Rattle.rmt_events.specs.Views.{Block, Table}
use Rattle.rmt_events.specs.TableCalls.{CreatesMutation, DropsPartition}
use Rattle.rmt_table_model.specs.Held.{Held}
use Rattle.rmt_table.specs.TableTrees.{table_at}
use Rattle.rmt_reply.specs.declared.refusal.Refusal.TheVariants.{LimitReached}
use Rattle.rmt_statement_model.specs.TableStates.{learned}
use Rattle.rmt_statement_model.specs.Mutations.{Mutates}
use Rattle.rmt_statement_model.specs.Drops.{Drops, DropsNothing}
use Rattle.rmt_statement_model.specs.ActOutcomes.{MutatesOr, DropsSome, DropsOr}
use Rattle.rmt_clients.specs.Clients.{Client, StepsTo, ChangesInto}
use Rattle.rmt_clients.proofs.ClientRests.{knows-itself, steps-now, changes-as}
use Rattle.rmt_clients.proofs.ClientChanges.{MutatesHere, mutated-here, lacks-mutation-here, DropsHere, dropped-here, drops-nothing-here, lacks-drop-here}
use Rattle.rmt_pass.specs.Passes.{SeesAs}

-- the client has seen its own entry
pub record SeesOwn (m : Client) (u : Held) (q : Client) : Type 0 where
  pub schema : q.schema ≡ m.schema
  pub sees : SeesAs q u
  pub fetching : (r : ℕ) → q.fetching r ≡ m.fetching r
  pub known : (r i : ℕ) → q.known r i ≡ m.known r i

-- ---- mutations

mutates-here : (m q : Client) (t u : Held) (command : CheckedMutation) → SeesAs m t → CreatesMutation (table_at t) command (table_at u) → SeesOwn m u q → MutatesHere m command q
mutates-here m q t u command s c o = record {
  room = ap (λ (n : List (Option ℕ × ℕ)). mutation_limit n m.log) s.next ∙ (ap (λ (l : List Entry). mutation_limit t.next l) s.log ∙ c.within);
  after = record {
    schema = o.schema;
    log = o.sees.log ∙ (ap (λ (x : Table). x.log) c.change
        ∙ (ap (λ (l : List Entry). Mutation (mutation_count l) t.next command ∷ l) (sym s.log)
        ∙ ap (λ (n : List (Option ℕ × ℕ)). Mutation (mutation_count m.log) n command ∷ m.log) (sym s.next)));
    next = o.sees.next ∙ (ap (λ (x : Table). x.next) c.change ∙ ap next_numbers_after (sym s.next));
    quorum = o.sees.quorum ∙ (ap (λ (x : Table). x.quorum) c.change ∙ sym s.quorum);
    fetching = o.fetching;
    known = o.known;
  };
}

-- a mutation is made
pub alters : (O : Block → Type 0) (p q : Client) (t u : Held) (command : CheckedMutation) (id : ℕ) → SeesAs p t → CreatesMutation (table_at t) command (table_at u) → SeesOwn p u q → id ≡ mutation_count t.log → StepsTo O p (MutatesOr command (Ok id)) q
alters O p q t u command id s c o numbered clear =
    steps-now O p q (MutatesOr command (Ok id)) (λ at f.
    subst (λ (n : ℕ). ChangesInto O q (Mutates at command n)) (sym (numbered ∙ ap mutation_count (sym s.log)))
    (mutated-here O p command q (mutates-here p q t u command s c o) at f))

-- one would pass a limit
pub alters-not : (O : Block → Type 0) (p : Client) (t : Held) (command : CheckedMutation) (limit : Limit) (value : ℕ) → SeesAs p t → mutation_limit t.next t.log ≡ Some (limit, value) → StepsTo O p (MutatesOr command (Err (LimitReached limit value))) p
alters-not O p t command limit value s reached clear =
    steps-now O p p (MutatesOr command (Err (LimitReached limit value))) (lacks-mutation-here O p limit value p (record {
      reached = ap (λ (n : List (Option ℕ × ℕ)). mutation_limit n p.log) s.next ∙ (ap (λ (l : List Entry). mutation_limit t.next l) s.log ∙ reached);
      after = knows-itself p;
    }))

-- ---- drops

-- the client has seen its own drop, which is known at the replica
pub record SeesDrop (m : Client) (u : Held) (r place : ℕ) (q : Client) : Type 0 where
  pub schema : q.schema ≡ m.schema
  pub sees : SeesAs q u
  pub fetching : (k : ℕ) → q.fetching k ≡ m.fetching k
  pub known : (k i : ℕ) → q.known k i ≡ learned m.known r place k i

drops-here : (m q : Client) (t u : Held) (r n : ℕ) (o : Option ℕ) → SeesAs m t → DropsPartition (table_at t) o n (table_at u) → SeesDrop m u r (length t.log) q → DropsHere m r o q
drops-here m q t u r n o s c d = record {
  exists = subst (λ (x : List (Option ℕ × ℕ)). 0 < next_number x o) (sym s.next) c.exists;
  room = ap (λ (x : List (Option ℕ × ℕ)). drop_limit x m.log o) s.next ∙ (ap (λ (l : List Entry). drop_limit t.next l o) s.log ∙ c.within);
  after = record {
    schema = d.schema;
    log = d.sees.log ∙ (ap (λ (x : Table). x.log) c.change
        ∙ (ap (λ (k : ℕ). DropRange o k ∷ t.log) number ∙ ap (λ (l : List Entry). DropRange o (next_number m.next o) ∷ l) (sym s.log)));
    next = d.sees.next ∙ (ap (λ (x : Table). x.next) c.change
        ∙ (ap (λ (k : ℕ). with_next t.next o (k + 1)) number ∙ ap (λ (x : List (Option ℕ × ℕ)). with_next x o (next_number m.next o + 1)) (sym s.next)));
    quorum = d.sees.quorum ∙ (ap (λ (x : Table). x.quorum) c.change
        ∙ (ap (λ (k : ℕ). quorum_after_drop o k t.quorum) number ∙ ap (λ (x : Quorum). quorum_after_drop o (next_number m.next o) x) (sym s.quorum)));
    fetching = d.fetching;
    known = λ k i. d.known k i ∙ ap (λ (l : List Entry). learned m.known r (length l) k i) (sym s.log);
  };
}
  where
    number : n ≡ next_number m.next o
    number = c.number ∙ ap (λ (x : List (Option ℕ × ℕ)). next_number x o) (sym s.next)

-- the blocks of a partition are dropped
pub drops : (O : Block → Type 0) (p q : Client) (t u : Held) (r n : ℕ) (o : Option ℕ) → SeesAs p t → DropsPartition (table_at t) o n (table_at u) → SeesDrop p u r (length t.log) q → StepsTo O p (DropsOr r o (Ok n)) q
drops O p q t u r n o s c d clear =
    let number : n ≡ next_number p.next o = c.number ∙ ap (λ (x : List (Option ℕ × ℕ)). next_number x o) (sym s.next) in
    steps-now O p q (DropsOr r o (Ok n)) (λ at f.
    subst (λ (k : ℕ). ChangesInto O q (DropsSome at r o k)) (sym number)
    (changes-as O q (Drops at r o (next_number p.next o)) (DropsSome at r o (next_number p.next o)) (λ u h. inl h)
    (dropped-here O p r o q (drops-here p q t u r n o s c d) at f)))

-- there is no such partition
pub drops-none : (O : Block → Type 0) (p : Client) (t : Held) (r : ℕ) (o : Option ℕ) → SeesAs p t → next_number t.next o ≡ 0 → StepsTo O p (DropsOr r o (Ok 0)) p
drops-none O p t r o s absent clear =
    steps-now O p p (DropsOr r o (Ok 0)) (λ at f.
    changes-as O p (DropsNothing at o 0) (DropsSome at r o 0) (λ u h. inr h)
    (drops-nothing-here O p o p (record { absent = ap (λ (x : List (Option ℕ × ℕ)). next_number x o) s.next ∙ absent; after = knows-itself p }) at f))

-- a drop would pass a limit
pub drops-not : (O : Block → Type 0) (p : Client) (t : Held) (r : ℕ) (o : Option ℕ) (limit : Limit) (value : ℕ) → SeesAs p t → 0 < next_number t.next o → drop_limit t.next t.log o ≡ Some (limit, value) → StepsTo O p (DropsOr r o (Err (LimitReached limit value))) p
drops-not O p t r o limit value s exists reached clear =
    steps-now O p p (DropsOr r o (Err (LimitReached limit value))) (lacks-drop-here O p o limit value p (record {
      exists = subst (λ (x : List (Option ℕ × ℕ)). 0 < next_number x o) (sym s.next) exists;
      reached = ap (λ (x : List (Option ℕ × ℕ)). drop_limit x p.log o) s.next ∙ (ap (λ (l : List Entry). drop_limit t.next l o) s.log ∙ reached);
      after = knows-itself p;
    }))

-- What is known of a table after it rested, and what a change of it comes to.
use Rattle.std.proofs.Common.{◌≡◌, ◌∙◌, inl, inr, Bool, List, [], ◌∷◌, ◌++◌, refl, ap, sym, subst}
use Rattle.rmt_entries.specs.declared.entry.Entry.{Entry}
use Rattle.rmt_entries.specs.declared.entry.Entry.TheVariants.{Get, Merge, Mutate, Mutation, DropRange}
use Rattle.rmt_model.specs.Words.{Each}
use Rattle.rmt_model.specs.Lawful.{mutation_count}
use Rattle.rmt_events.specs.Clusters.{Cluster}
use Rattle.rmt_statement_model.specs.TableStates.{TableState}
use Rattle.rmt_statement_model.specs.BackgroundWork.{IsOfWorker}
use Rattle.rmt_statement_model.specs.Rests.{Rests}
use Rattle.rmt_statement_model.specs.Shows.{Shows, Leads}
use Rattle.rmt_statement_model.proofs.RestLaws.{rests-none}
use Rattle.rmt_acting.specs.Acting.{Sight, KeepsShape, GoesOn, Leaves, Brings}
use Rattle.rmt_acting.specs.Stepped.{seen_of}

-- what is known of a table whatever state was shown, before it rested or after
pub record IsKnown {w : Bool} (s : Sight w) (t : TableState) : Type 0 where
  pub schema : t.schema ≡ s.shape
  pub fetching : t.fetching ≡ s.fetching
  pub mutations : mutation_count t.log ≡ s.mutations

-- entries of workers are no mutations
same-mutations : (gained log : List Entry) → Each IsOfWorker gained → mutation_count (gained ++ log) ≡ mutation_count log
same-mutations [] log k = refl
same-mutations (Merge name sources count ∷ gained) log k = same-mutations gained log k.1
same-mutations (Mutate old name upto count mcount ∷ gained) log k = same-mutations gained log k.1
same-mutations (Get p n digest source need ∷ gained) log k = absurd k.0
same-mutations (Mutation id numbers command ∷ gained) log k = absurd k.0
same-mutations (DropRange p n ∷ gained) log k = absurd k.0

-- a state that is shown is known so
pub known-shown : {w : Bool} (s : Sight w) (t : TableState) → s.shows t → IsKnown s t
known-shown s t h = record { schema = s.schema-shown t h; fetching = s.fetching-shown t h; mutations = s.mutations-shown t h }

-- and what it rests to
pub known-rested : {w : Bool} (s : Sight w) (t at : TableState) → s.shows t → Rests w t at → IsKnown s at
known-rested s t at h (inl e) = subst (IsKnown s) (sym e) (known-shown s t h)
known-rested s t at h (inr i) =
    let k = known-shown s t h in
    record {
      schema = ap (λ (x : TableState). x.schema) i.works.change ∙ k.schema;
      fetching = ap (λ (x : TableState). x.fetching) i.works.change ∙ k.fetching;
      mutations = ap (λ (x : TableState). mutation_count x.log) i.works.change ∙ (same-mutations i.works.gained t.log i.works.workers ∙ k.mutations);
    }

-- ---- changes

-- what a table comes to by one change it comes to by another that follows, where the table is known
pub brings-on : {w : Bool} (s u : Sight w) (Change More : TableState → TableState → Type 0) → ((t v : TableState) → IsKnown s t → u.shows v → Change t v → More t v) → Brings s Change u → Brings s More u
brings-on s u Change More f k t h =
    let l = k t h in
    record { state = l.state; holds = record { at = l.holds.at; rests = l.holds.rests; change = f l.holds.at l.state (known-rested s t l.holds.at h l.holds.rests) l.shows l.holds.change }; shows = l.shows }

-- what stays as it is needn't rest
pub brings-none : {w : Bool} (s : Sight w) (More : TableState → TableState → Type 0) → ((t : TableState) → IsKnown s t → More t t) → Brings s More s
brings-none s More f t h = record { state = t; holds = record { at = t; rests = inl refl; change = f t (known-shown s t h) }; shows = h }

-- in a cluster nothing rests
pub led : (s u : Cluster) (Change : TableState → TableState → Type 0) → Brings (seen_of s) Change (seen_of u) → (t : TableState) → Shows s t → Leads u (Change t)
led s u Change k t h =
    let l = k t h in
    record { state = l.state; holds = subst (λ (x : TableState). Change x l.state) (rests-none t l.holds.at l.holds.rests) l.holds.change; shows = l.shows }

-- ---- calls one after the other

-- what goes on and is left goes on
pub goes-then : {w : Bool} (s m u : Sight w) → GoesOn s m → Leaves m u → GoesOn s u
goes-then s m u g l = record { free = l.free g.free; ups = l.ups ∙ g.ups }

pub keeps-then : {w : Bool} (s m u : Sight w) → KeepsShape s m → KeepsShape m u → KeepsShape s u
keeps-then s m u k l = record {
  shape = l.shape ∙ k.shape;
  count = l.count ∙ k.count;
  place = l.place ∙ k.place;
  others = λ i n. l.others i (λ q. n (q ∙ k.place)) ∙ k.others i n;
}

pub keeps-same : {w : Bool} (s : Sight w) → KeepsShape s s
keeps-same s = record { shape = refl; count = refl; place = refl; others = λ i n. refl }

-- what is left goes on, where no insert was under way
pub leaves-on : {w : Bool} (s u : Sight w) → s.free → Leaves s u → GoesOn s u
leaves-on s u f l = record { free = l.free f; ups = l.ups }

pub leaves-same : {w : Bool} (s : Sight w) → Leaves s s
leaves-same s = record { free = λ f. f; ups = refl; events = λ _. refl }

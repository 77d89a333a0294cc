-- What a client knows of a table that rests: what workers do beside it leaves it fitting, once the client has seen it.
use Rattle.std.proofs.Common.{◌≡◌, ℕ, ◌≤◌, inl, inr, Bool, true, List, [], ◌∷◌, ◌++◌, length, refl, sym, ap, subst, arith, ◌∙◌}
use Rattle.std.proofs.Math.Path.{fun_ext}
use Rattle.std.specs.declared.option.Option.{Option}
use Rattle.rmt_values.specs.Rows.{Shape}
use Rattle.rmt_entries.specs.declared.entry.Entry.{Entry}
use Rattle.rmt_entries.specs.declared.entry.Entry.TheVariants.{Get, Merge, Mutate, Mutation, DropRange}
use Rattle.rmt_model.specs.Words.{Each}
use Rattle.rmt_model.specs.Lawful.{Lawful}
use Rattle.rmt_model.specs.Quorum.{Quorum}
use Rattle.rmt_model.specs.EntryLimits.{worker_count}
use Rattle.rmt_events.specs.Views.{Block}
use Rattle.rmt_events.specs.Clusters.{Accepted}
use Rattle.rmt_statement_model.specs.TableStates.{TableState, empty_table}
use Rattle.rmt_statement_model.specs.BackgroundWork.{IsOfWorker}
use Rattle.rmt_statement_model.specs.Rests.{Idles, Rests, Runs}
use Rattle.rmt_statement_model.proofs.WorkerEntries.{gained-room}
use Rattle.rmt_statement_model.proofs.RestLaws.{rests-then}
use Rattle.rmt_clients.specs.Clients.{Client, known_table, KnowsTable, AreAccepted, Fits, seeing, after_work, SeesHere, ChangesInto, RestsAnd}

-- ---- what fits

-- a state that fits is the table as the client knows it, with blocks
pub fits-table : (O : Block → Type 0) (p : Client) (t : TableState) → Fits O p t → record (known_table p) { blocks = t.blocks } ≡ t
fits-table O p t f =
    ap (λ (x : Shape). record (known_table p) { schema = x; blocks = t.blocks }) f.knows.schema
    ∙ (ap (λ (x : List Entry). record (known_table p) { schema = t.schema; log = x; blocks = t.blocks }) f.knows.log
    ∙ (ap (λ (x : List (Option ℕ × ℕ)). record (known_table p) { schema = t.schema; log = t.log; blocks = t.blocks; next = x }) f.knows.next
    ∙ (ap (λ (x : Quorum). record (known_table p) { schema = t.schema; log = t.log; blocks = t.blocks; next = t.next; quorum = x }) f.knows.quorum
    ∙ (ap (λ (x : ℕ → Bool). record t { fetching = x; known = p.known }) (fun_ext f.knows.fetching)
    ∙ ap (λ (x : ℕ → ℕ → Bool). record t { known = x }) (fun_ext (λ r. fun_ext (f.knows.known r)))))))

-- what holds of the table as the client knows it holds of each state that fits
pub fits-all : (O : Block → Type 0) (p : Client) (P : TableState → Type 0) → ((blocks : List Accepted) → AreAccepted O p.log blocks → P (record (known_table p) { blocks = blocks })) → (t : TableState) → Fits O p t → P t
fits-all O p P h t f = subst P (fits-table O p t f) (h t.blocks (subst (λ (l : List Entry). AreAccepted O l t.blocks) (sym f.knows.log) f.blocks))

-- the client fits a state that it knows, with blocks that are accepted
pub knows-fits : (O : Block → Type 0) (q : Client) (u : TableState) (blocks : List Accepted) → KnowsTable q u → AreAccepted O u.log blocks → Fits O q (record u { blocks = blocks })
knows-fits O q u blocks k a = record {
  knows = record { schema = k.schema; log = k.log; next = k.next; quorum = k.quorum; fetching = k.fetching; known = k.known };
  blocks = a;
}

-- a client knows the table as it knows it
pub knows-itself : (p : Client) → KnowsTable p (known_table p)
knows-itself p = record { schema = refl; log = refl; next = refl; quorum = refl; fetching = λ r. refl; known = λ r i. refl }

-- what fits a client fits another one that knows as much
pub fits-as : (O : Block → Type 0) (p q : Client) → KnowsTable q (known_table p) → (t : TableState) → Fits O p t → Fits O q t
fits-as O p q k = fits-all O p (Fits O q) (λ blocks a. knows-fits O q (known_table p) blocks k a)

-- a table without rows fits a client that knows it
pub fits-empty : (O : Block → Type 0) (schema : Shape) (q : Client) → KnowsTable q (empty_table schema) → Fits O q (empty_table schema)
fits-empty O schema q k = knows-fits O q (empty_table schema) [] k tt

-- ---- rests

-- entries of workers are no block's
pub accepted-behind : (O : Block → Type 0) (gained log : List Entry) (blocks : List Accepted) → Each IsOfWorker gained → AreAccepted O log blocks → AreAccepted O (gained ++ log) blocks
accepted-behind O [] log blocks q a = a
accepted-behind O (Merge name sources count ∷ gained) log blocks q a = accepted-behind O gained log blocks q.1 a
accepted-behind O (Mutate old name upto count mcount ∷ gained) log blocks q a = accepted-behind O gained log blocks q.1 a
accepted-behind O (Get p n digest source need ∷ gained) log blocks q a = absurd q.0
accepted-behind O (Mutation id numbers command ∷ gained) log blocks q a = absurd q.0
accepted-behind O (DropRange p n ∷ gained) log blocks q a = absurd q.0

-- where workers run, any replica may be noted
any-noted : (noted : List ℕ) → Each (λ (r : ℕ). true ≡ true) noted
any-noted [] = tt
any-noted (r ∷ noted) = (refl, any-noted noted)

-- each state that fitted fits again, once the client has seen the work
pub fits-rested : (O : Block → Type 0) (p : Client) (gained : List Entry) (noted : List ℕ) → Each IsOfWorker gained → (t : TableState) → Fits O p t → Fits O (seeing gained noted p) (after_work gained noted t)
fits-rested O p gained noted q = fits-all O p (λ (t : TableState). Fits O (seeing gained noted p) (after_work gained noted t)) (λ blocks a. knows-fits O (seeing gained noted p) (known_table (seeing gained noted p)) blocks (knows-itself (seeing gained noted p)) (accepted-behind O gained p.log blocks q a))

-- and workers did background work there
pub idles-so : (O : Block → Type 0) (p : Client) (gained : List Entry) (noted : List ℕ) → SeesHere p gained → (t : TableState) → Fits O p t → Idles true t (after_work gained noted t)
idles-so O p gained noted h = fits-all O p (λ (t : TableState). Idles true t (after_work gained noted t)) (λ blocks a. record {
  run = refl;
  turns = length gained;
  works = record { gained = gained; workers = h.workers; within = omega arith; room = gained-room gained p.log h.workers h.few; lawful = h.lawful; noted = noted; live = any-noted noted; change = refl };
})

-- so that it rests
pub rests-so : (O : Block → Type 0) (p : Client) (gained : List Entry) (noted : List ℕ) → SeesHere p gained → (t : TableState) → Fits O p t → Rests true t (after_work gained noted t)
rests-so O p gained noted h t f = inr (idles-so O p gained noted h t f)

-- a step of the client, once it has seen the work, is a rest and that step
pub rests-and : (O : Block → Type 0) (p q : Client) (gained : List Entry) (noted : List ℕ) (Change : TableState → TableState → Type 0) → SeesHere p gained → ((at : TableState) → Fits O (seeing gained noted p) at → ChangesInto O q (Change at)) → (t : TableState) → Fits O p t → RestsAnd O q Change t
rests-and O p q gained noted Change h step t f = record {
  at = after_work gained noted t;
  rests = rests-so O p gained noted h t f;
  comes = step (after_work gained noted t) (fits-rested O p gained noted h.workers t f);
}

-- so is a step alone
pub steps-now : (O : Block → Type 0) (p q : Client) (Change : TableState → TableState → Type 0) → ((at : TableState) → Fits O p at → ChangesInto O q (Change at)) → (t : TableState) → Fits O p t → RestsAnd O q Change t
steps-now O p q Change step t f = record { at = t; rests = inl refl; comes = step t f }

-- one more rest before it is the same rest
pub rests-again : (O : Block → Type 0) (p q : Client) (gained : List Entry) (noted : List ℕ) (Change : TableState → TableState → Type 0) → SeesHere p gained → ((at : TableState) → Fits O (seeing gained noted p) at → RestsAnd O q Change at) → (t : TableState) → Fits O p t → RestsAnd O q Change t
rests-again O p q gained noted Change h step t f =
    let later : RestsAnd O q Change (after_work gained noted t) = step (after_work gained noted t) (fits-rested O p gained noted h.workers t f) in
    record {
      at = later.at;
      rests = rests-then true t (after_work gained noted t) later.at (rests-so O p gained noted h t f) later.rests;
      comes = later.comes;
    }

-- ---- nothing but rests

-- the client has seen the work, and nothing else changes
pub rested : (O : Block → Type 0) (p : Client) (gained : List Entry) (noted : List ℕ) (q : Client) → SeesHere p gained → KnowsTable q (known_table (seeing gained noted p)) → (t : TableState) → Fits O p t → RestsAnd O q (λ at u. u ≡ at) t
rested O p gained noted q h k = rests-and O p q gained noted (λ at u. u ≡ at) h (λ at f. record { after = at; change = refl; fits = fits-as O (seeing gained noted p) q k at f })

-- so many turns of RUN, which aren't told from the work of the workers
pub ran : (O : Block → Type 0) (up : ℕ → Bool) (turns : ℕ) (p : Client) (gained : List Entry) (noted : List ℕ) (q : Client) → SeesHere p gained → KnowsTable q (known_table (seeing gained noted p)) → (t : TableState) → Fits O p t → RestsAnd O q (Runs true up turns) t
ran O up turns p gained noted q h k t f = record {
  at = t;
  rests = inl refl;
  comes = record {
    after = after_work gained noted t;
    change = inr (idles-so O p gained noted h t f);
    fits = fits-as O (seeing gained noted p) q k (after_work gained noted t) (fits-rested O p gained noted h.workers t f);
  };
}

-- ---- what a change comes to

-- a change that is another one too
pub changes-as : (O : Block → Type 0) (q : Client) (C D : TableState → Type 0) → ((u : TableState) → C u → D u) → ChangesInto O q C → ChangesInto O q D
changes-as O q C D f c = record { after = c.after; change = f c.after c.change; fits = c.fits }

pub rests-as : (O : Block → Type 0) (q : Client) (C D : TableState → TableState → Type 0) → ((at u : TableState) → C at u → D at u) → (t : TableState) → RestsAnd O q C t → RestsAnd O q D t
rests-as O q C D f t r = record { at = r.at; rests = r.rests; comes = changes-as O q (C r.at) (D r.at) (f r.at) r.comes }

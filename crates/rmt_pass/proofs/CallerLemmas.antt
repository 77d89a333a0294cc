-- How the steps of one partition and of one part make up an OPTIMIZE and a WAIT MUTATION: for callers.
use Rattle.std.proofs.Common.{◌≡◌, ℕ, inl, true, List, [], ◌∷◌, ◌++◌, refl, subst, ◌∙◌}
use Rattle.std.specs.declared.option.Option.{Option}
use Rattle.rmt_names.specs.Names.{Name}
use Rattle.rmt_entries.specs.declared.entry.Entry.{Entry}
use Rattle.rmt_entries.specs.declared.entry.Entry.TheVariants.{Get, Merge, Mutate, Mutation, DropRange}
use Rattle.rmt_model.proofs.Lists.{Has-right}
use Rattle.rmt_events.specs.Views.{Block}
use Rattle.rmt_events.proofs.Copies.{entry-behind}
use Rattle.rmt_reply.specs.declared.refusal.Refusal.{Refusal}
use Rattle.rmt_statement_model.specs.TableStates.{TableState}
use Rattle.rmt_statement_model.specs.Optimizes.{CantLater, OptimizesLater}
use Rattle.rmt_statement_model.specs.Waits.{IsCarried, MutatesUpTo}
use Rattle.rmt_statement_model.proofs.MutationIds.{one-place}
use Rattle.rmt_live_names.specs.declared.optimized.Optimized.TheVariants as optimized
use Rattle.rmt_clients.specs.Clients.{Client, ChangesInto, Fits, RestsAnd, seeing}
use Rattle.rmt_clients.proofs.ClientMeets.{seeing-both}
use Rattle.rmt_clients.proofs.ClientWaits.{MutatesPartsHere, LacksEntriesHere, mutates-next}
use Rattle.rmt_pass.specs.MergeSteps.{OptimizesTo}
use Rattle.rmt_pass.specs.MutateSteps.{MutatesOneMore, LacksEntry}

-- ---- OPTIMIZE

-- the partition has one part
pub one-later : (O : Block → Type 0) (q : Client) (o : Option ℕ) (name : Name) (t : TableState) → RestsAnd O q (OptimizesTo o (optimized.Name name)) t → ChangesInto O q (OptimizesLater true t o name)
one-later O q o name t r = record {
  after = r.comes.after;
  change = record { at = r.at; rests = r.rests; mid = r.comes.after; optimizes = r.comes.change; after = inl refl };
  fits = r.comes.fits;
}

-- or its parts can't be merged
pub cant-later : (O : Block → Type 0) (q : Client) (o : Option ℕ) (why : Refusal) (t : TableState) → RestsAnd O q (OptimizesTo o (optimized.Refused why)) t → ChangesInto O q (CantLater true t o why)
cant-later O q o why t r = record {
  after = r.at;
  change = record { rests = r.rests; cant = r.comes.change.1 };
  fits = subst (λ (u : TableState). Fits O q u) r.comes.change.0 r.comes.fits;
}

-- ---- WAIT MUTATION

-- what is carried in the longer log is so in the log before
carried-before : (gained log : List Entry) (id : ℕ) (a : Name) → IsCarried (gained ++ log) id a → IsCarried log id a
carried-before gained log id a f k n numbers command h = f k n numbers command (Has-right gained log (Mutation k numbers command) h)

up-to-before : (gained log : List Entry) (place id : ℕ) (e : Entry) → MutatesUpTo (gained ++ log) place id e → MutatesUpTo log place id e
up-to-before gained log place id (Mutate old name upto count mcount) m = (m.0, carried-before gained log id name m.1)
up-to-before gained log place id (Merge name sources count) m = absurd m
up-to-before gained log place id (Get p n digest source need) m = absurd m
up-to-before gained log place id (Mutation k numbers command) m = absurd m
up-to-before gained log place id (DropRange p n) m = absurd m

-- one part more is mutated
pub wait-more : (p q : Client) (id : ℕ) (gained : List Entry) (noted : List ℕ) → MutatesPartsHere p id gained → (m : MutatesOneMore id (seeing gained noted p) q) → MutatesPartsHere p id (m.entry ∷ gained)
wait-more p q id gained noted h m =
    let same : m.place ≡ h.place =
    one-place p.schema (gained ++ p.log) m.place h.place id m.is_place.0 h.numbers m.is_place.1 h.command h.lawful m.is_place.2
    (entry-behind gained p.log h.place (Mutation id h.numbers h.command) h.at) in
    mutates-next p id gained m.entry h (inl (subst (λ (n : ℕ). MutatesUpTo p.log n id m.entry) same (up-to-before gained p.log m.place id m.entry m.mutates))) m.few m.lawful

pub wait-seen : (p q : Client) (id : ℕ) (gained : List Entry) (noted : List ℕ) → (m : MutatesOneMore id (seeing gained noted p) q) → q ≡ seeing (m.entry ∷ gained) noted p
wait-seen p q id gained noted m = m.seen ∙ seeing-both (m.entry ∷ []) gained [] noted p

-- or one entry more would pass a limit
pub wait-lacks : (p : Client) (id : ℕ) (refusal : Refusal) → (l : LacksEntry p id refusal) → LacksEntriesHere p id l.limit l.value
wait-lacks p id refusal l = record { waits = l.waits; reached = l.reached }

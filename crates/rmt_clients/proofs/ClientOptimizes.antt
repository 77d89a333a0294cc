-- A client's OPTIMIZE: partition by partition, among workers.
use Rattle.std.proofs.Common.{◌≡◌, ℕ, ◌≤◌, inl, inr, Bool, true, List, [], ◌∷◌, ◌++◌, length, refl}
use Rattle.std.specs.declared.option.Option.{Option}
use Rattle.std.specs.declared.option.Option.TheVariants.{Some, None}
use Rattle.rmt_values.specs.declared.limit.Limit.{Limit}
use Rattle.rmt_names.specs.Names.{Name}
use Rattle.rmt_entries.specs.declared.entry.Entry.{Entry}
use Rattle.rmt_entries.specs.declared.entry.Entry.TheVariants.{Merge}
use Rattle.rmt_model.specs.Lawful.{Lawful}
use Rattle.rmt_model.specs.EntryLimits.{worker_limit}
use Rattle.rmt_events.specs.Views.{Block}
use Rattle.rmt_events.specs.TableCalls.{AreQuiet}
use Rattle.rmt_events.specs.TableRefusals.{AreAlike}
use Rattle.rmt_reply.specs.declared.refusal.Refusal.{Refusal}
use Rattle.rmt_reply.specs.declared.refusal.Refusal.TheVariants.{LimitReached, Unmergeable}
use Rattle.rmt_statement_model.specs.TableStates.{TableState, synced}
use Rattle.rmt_statement_model.specs.Optimizes.{live_of, partitions_asked, Optimizes, AreFirstUnmergeable, OptimizesLater, CantLater, OptimizesAll, OptimizesTable}
use Rattle.rmt_statement_model.specs.LostSources.{LacksSource}
use Rattle.rmt_statement_model.proofs.OptimizeRows.{optimizes-more, optimizes-stop}
use Rattle.rmt_clients.specs.Clients.{Client, known_table, KnowsTable, Fits, seeing, after_work, ChangesInto, RestsAnd, SeesHere}
use Rattle.rmt_clients.proofs.ClientRests.{fits-all, knows-fits, fits-as, fits-rested, rests-so, rests-and, changes-as, rests-as}
use Rattle.rmt_clients.proofs.ClientDrains.{DrainsHere, drained-here}

-- ---- one partition

-- the client has seen the whole log, and the partition has one live name
pub record HasOneHere (p : Client) (o : Option ℕ) (name : Name) (q : Client) : Type 0 where
  pub one : live_of p.log o ≡ name ∷ []
  pub after : KnowsTable q (known_table p)

pub one-here : (O : Block → Type 0) (p : Client) (o : Option ℕ) (name : Name) (q : Client) → HasOneHere p o name q → (t : TableState) → Fits O p t → ChangesInto O q (Optimizes t o name)
one-here O p o name q h = fits-all O p (λ (t : TableState). ChangesInto O q (Optimizes t o name)) (λ blocks a. record {
  after = record (known_table p) { blocks = blocks };
  change = inl (h.one, refl);
  fits = knows-fits O q (known_table p) blocks h.after a;
})

-- the client has seen the whole log, and all live names of the partition are merged into one
pub record MergesHere (p : Client) (o : Option ℕ) (name : Name) (q : Client) : Type 0 where
  pub first : Name
  pub second : Name
  pub rest : List Name
  pub sources : live_of p.log o ≡ first ∷ second ∷ rest
  pub count : ℕ
  pub quiet : AreQuiet p.quorum.pending (first ∷ second ∷ rest)
  pub room : worker_limit p.log ≡ None
  pub lawful : Lawful p.schema (Merge name (first ∷ second ∷ rest) count ∷ p.log)
  pub after : KnowsTable q (known_table (seeing (Merge name (first ∷ second ∷ rest) count ∷ []) [] p))

pub merged-here : (O : Block → Type 0) (p : Client) (o : Option ℕ) (name : Name) (q : Client) → MergesHere p o name q → (t : TableState) → Fits O p t → ChangesInto O q (Optimizes t o name)
merged-here O p o name q h = fits-all O p (λ (t : TableState). ChangesInto O q (Optimizes t o name)) (λ blocks a. record {
  after = after_work (Merge name (h.first ∷ h.second ∷ h.rest) h.count ∷ []) [] (record (known_table p) { blocks = blocks });
  change = inr (record {
    first = h.first;
    second = h.second;
    rest = h.rest;
    sources = h.sources;
    count = h.count;
    quiet = h.quiet;
    room = h.room;
    lawful = h.lawful;
    change = refl;
  });
  fits = knows-fits O q (known_table (seeing (Merge name (h.first ∷ h.second ∷ h.rest) h.count ∷ []) [] p)) blocks h.after a;
})

-- one partition is optimized among workers: a rest, its step, and a rest
pub optimized : (O : Block → Type 0) (p : Client) (o : Option ℕ) (name : Name) (gained : List Entry) (noted : List ℕ) (mid : Client) (later : List Entry) (notes : List ℕ) (q : Client) → SeesHere p gained → ((at : TableState) → Fits O (seeing gained noted p) at → ChangesInto O mid (Optimizes at o name)) → SeesHere mid later → KnowsTable q (known_table (seeing later notes mid)) → (t : TableState) → Fits O p t → ChangesInto O q (OptimizesLater true t o name)
optimized O p o name gained noted mid later notes q s step g k t f =
    let c = step (after_work gained noted t) (fits-rested O p gained noted s.workers t f) in
    record {
      after = after_work later notes c.after;
      change = record { at = after_work gained noted t; rests = rests-so O p gained noted s t f; mid = c.after; optimizes = c.change; after = rests-so O mid later notes g c.after c.fits };
      fits = fits-as O (seeing later notes mid) q k (after_work later notes c.after) (fits-rested O mid later notes g.workers c.after c.fits);
    }

-- ---- one that can't be

-- the client has seen the whole log, and two live names of the partition can't be merged
pub record CantMergeHere (p : Client) (o : Option ℕ) (left right : Name) (q : Client) : Type 0 where
  pub first : AreFirstUnmergeable p.log p.quorum.pending (live_of p.log o) left right
  pub after : KnowsTable q (known_table p)

pub cant-merge : (O : Block → Type 0) (p : Client) (o : Option ℕ) (left right : Name) (gained : List Entry) (noted : List ℕ) (q : Client) → SeesHere p gained → CantMergeHere (seeing gained noted p) o left right q → (t : TableState) → Fits O p t → ChangesInto O q (CantLater true t o (Unmergeable left right))
cant-merge O p o left right gained noted q s h t f =
    let r = fits-rested O p gained noted s.workers t f in
    record {
      after = after_work gained noted t;
      change = record { rests = rests-so O p gained noted s t f; cant = fits-all O (seeing gained noted p) (λ (u : TableState). AreFirstUnmergeable u.log u.quorum.pending (live_of u.log o) left right) (λ blocks a. h.first) (after_work gained noted t) r };
      fits = fits-as O (seeing gained noted p) q h.after (after_work gained noted t) r;
    }

-- the client has seen the whole log, the partition's live names, two or more, could be merged, and one more entry would pass a limit
pub record CantGrowHere (p : Client) (o : Option ℕ) (limit : Limit) (value : ℕ) (q : Client) : Type 0 where
  pub several : 2 ≤ length (live_of p.log o)
  pub alike : AreAlike p.log p.quorum.pending (live_of p.log o)
  pub reached : worker_limit p.log ≡ Some (limit, value)
  pub after : KnowsTable q (known_table p)

pub cant-grow : (O : Block → Type 0) (p : Client) (o : Option ℕ) (limit : Limit) (value : ℕ) (gained : List Entry) (noted : List ℕ) (q : Client) → SeesHere p gained → CantGrowHere (seeing gained noted p) o limit value q → (t : TableState) → Fits O p t → ChangesInto O q (CantLater true t o (LimitReached limit value))
cant-grow O p o limit value gained noted q s h t f =
    let r = fits-rested O p gained noted s.workers t f in
    record {
      after = after_work gained noted t;
      change = record { rests = rests-so O p gained noted s t f; cant = fits-all O (seeing gained noted p) (λ (u : TableState). (2 ≤ length (live_of u.log o)) × AreAlike u.log u.quorum.pending (live_of u.log o) × (worker_limit u.log ≡ Some (limit, value))) (λ blocks a. (h.several, h.alike, h.reached)) (after_work gained noted t) r };
      fits = fits-as O (seeing gained noted p) q h.after (after_work gained noted t) r;
    }

-- ---- one after the other

-- before the first partition
pub optimizes-begin : (O : Block → Type 0) (r : ℕ) (p : Client) (t : TableState) → Fits O p t → ChangesInto O p (OptimizesAll true t r [] [] None)
optimizes-begin O r p t f = record { after = t; change = refl; fits = f }

-- one partition more, after which the replica is brought up to date
pub optimizes-next : (O : Block → Type 0) (r : ℕ) (ps : List (Option ℕ)) (o : Option ℕ) (names : List Name) (name : Name) (p mid q : Client) (t : TableState) → ChangesInto O p (OptimizesAll true t r ps names None) → ((u : TableState) → Fits O p u → ChangesInto O mid (OptimizesLater true u o name)) → DrainsHere mid r q → ChangesInto O q (OptimizesAll true t r (ps ++ o ∷ []) (names ++ name ∷ []) None)
optimizes-next O r ps o names name p mid q t m next d =
    let c = next m.after m.fits in
    let s = drained-here O mid r q d c.after c.fits in
    record { after = s.after; change = optimizes-more true t m.after c.after s.after r ps o names name m.change c.change s.change; fits = s.fits }

-- the partition at which it ends
pub optimizes-end : (O : Block → Type 0) (r : ℕ) (ps rest : List (Option ℕ)) (o : Option ℕ) (names : List Name) (refusal : Refusal) (p q : Client) (t : TableState) → ChangesInto O p (OptimizesAll true t r ps names None) → ((u : TableState) → Fits O p u → ChangesInto O q (CantLater true u o refusal)) → ChangesInto O q (OptimizesAll true t r (ps ++ o ∷ rest) names (Some refusal))
optimizes-end O r ps rest o names refusal p q t m next =
    changes-as O q (CantLater true m.after o refusal) (OptimizesAll true t r (ps ++ o ∷ rest) names (Some refusal))
    (λ u h. optimizes-stop true t m.after u r ps rest o names refusal m.change h) (next m.after m.fits)

-- ---- the table

-- the replica is brought up to date, and then the partitions are optimized that the client's log has
pub optimizes-table : (O : Block → Type 0) (up : ℕ → Bool) (r : ℕ) (asked : Option (Option ℕ)) (names : List Name) (refused : Option Refusal) (p : Client) (gained : List Entry) (noted : List ℕ) (mid q : Client) → SeesHere p gained → DrainsHere (seeing gained noted p) r mid → ((u : TableState) → Fits O mid u → ChangesInto O q (OptimizesAll true u r (partitions_asked asked (gained ++ p.log)) names refused)) → (t : TableState) → Fits O p t → RestsAnd O q (λ at u. OptimizesTable true up at r asked names refused u) t
optimizes-table O up r asked names refused p gained noted mid q s d next =
    rests-and O p q gained noted (λ at u. OptimizesTable true up at r asked names refused u) s
    (fits-all O (seeing gained noted p) (λ (at : TableState). ChangesInto O q (OptimizesTable true up at r asked names refused)) (λ blocks a.
    let at : TableState = record (known_table (seeing gained noted p)) { blocks = blocks } in
    let next_at : ChangesInto O q (OptimizesAll true (synced r at) r (partitions_asked asked at.log) names refused) = next (synced r at) (knows-fits O mid (synced r (known_table (seeing gained noted p))) blocks d.after a) in
    changes-as O q (OptimizesAll true (synced r at) r (partitions_asked asked at.log) names refused) (OptimizesTable true up at r asked names refused) (λ u h. inr h) next_at))

-- or it lacks a part
pub optimizes-none : (O : Block → Type 0) (up : ℕ → Bool) (r : ℕ) (asked : Option (Option ℕ)) (refusal : Refusal) (q : Client) (t : TableState) → RestsAnd O q (λ at u. LacksSource up at r refusal u) t → RestsAnd O q (λ at u. OptimizesTable true up at r asked [] (Some refusal) u) t
optimizes-none O up r asked refusal q =
    rests-as O q (λ at u. LacksSource up at r refusal u) (λ at u. OptimizesTable true up at r asked [] (Some refusal) u) (λ at u h. inl (record { none = refl; refusal = refusal; is_refused = refl; lacks = h }))

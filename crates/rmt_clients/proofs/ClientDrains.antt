-- A client brings a replica up to date, or finds that it lacks a part whose source is lost.
use Rattle.std.proofs.Common.{◌≡◌, ℕ, Bool, true, false, List, refl}
use Rattle.std.specs.declared.option.Option.{Option}
use Rattle.std.specs.declared.option.Option.TheVariants.{Some}
use Rattle.rmt_names.specs.Names.{block_name}
use Rattle.rmt_entries.specs.declared.entry.Entry.{Entry}
use Rattle.rmt_entries.specs.declared.entry.Entry.TheVariants.{Get}
use Rattle.rmt_model.specs.Lawful.{entry_at}
use Rattle.rmt_model.specs.Live.{Dropped}
use Rattle.rmt_events.specs.Views.{Block}
use Rattle.rmt_reply.specs.declared.refusal.Refusal.TheVariants.{NoSource}
use Rattle.rmt_statement_model.specs.TableStates.{TableState, learned_to, synced}
use Rattle.rmt_statement_model.specs.LostSources.{LacksSource}
use Rattle.rmt_clients.specs.Clients.{Client, known_table, KnowsTable, Fits, seeing, ChangesInto, RestsAnd, SeesHere}
use Rattle.rmt_clients.proofs.ClientRests.{fits-all, knows-fits, rests-and}

-- the client has seen the log up to some place, everything below it is known at the replica then, and the replica is noted
pub record DrainsHere (p : Client) (r : ℕ) (q : Client) : Type 0 where
  pub after : KnowsTable q (synced r (known_table p))

pub drained-here : (O : Block → Type 0) (p : Client) (r : ℕ) (q : Client) → DrainsHere p r q → (t : TableState) → Fits O p t → ChangesInto O q (λ u. u ≡ synced r t)
drained-here O p r q h = fits-all O p (λ (t : TableState). ChangesInto O q (λ u. u ≡ synced r t)) (λ blocks a. record {
  after = synced r (record (known_table p) { blocks = blocks });
  change = refl;
  fits = knows-fits O q (synced r (known_table p)) blocks h.after a;
})

-- a replica is brought up to date among workers
pub drained : (O : Block → Type 0) (p : Client) (r : ℕ) (gained : List Entry) (noted : List ℕ) (q : Client) → SeesHere p gained → DrainsHere (seeing gained noted p) r q → (t : TableState) → Fits O p t → RestsAnd O q (λ at u. u ≡ synced r at) t
drained O p r gained noted q s h = rests-and O p q gained noted (λ at u. u ≡ synced r at) s (drained-here O (seeing gained noted p) r q h)

-- what stands below a place of the log is known at the replica
abbrev pub known_below : ℕ → ℕ → TableState → TableState
known_below r place t = record t { known = learned_to t.known r place }

-- the client knows a Get's place neither at the replica nor at any that is up; what stands before it is known there then
pub record LosesHere (up : ℕ → Bool) (p : Client) (r place : ℕ) (o : Option ℕ) (n : ℕ) (digest : List ℕ) (source need : ℕ) (q : Client) : Type 0 where
  pub entry : entry_at p.log place ≡ Some (Get o n digest source need)
  pub stays : Dropped p.log (block_name o n) → ⊥
  pub down : up source ≡ false
  pub unknown : p.known r place ≡ false
  pub nowhere : (k : ℕ) → up k ≡ true → p.known k place ≡ false
  pub after : KnowsTable q (known_below r place (known_table p))

pub lost-here : (O : Block → Type 0) (up : ℕ → Bool) (p : Client) (r place : ℕ) (o : Option ℕ) (n : ℕ) (digest : List ℕ) (source need : ℕ) (q : Client) → LosesHere up p r place o n digest source need q → (t : TableState) → Fits O p t → ChangesInto O q (LacksSource up t r (NoSource (block_name o n) source))
lost-here O up p r place o n digest source need q h = fits-all O p (λ (t : TableState). ChangesInto O q (LacksSource up t r (NoSource (block_name o n) source))) (λ blocks a. record {
  after = known_below r place (record (known_table p) { blocks = blocks });
  change = record {
    place = place;
    partition = o;
    number = n;
    digest = digest;
    source = source;
    need = need;
    entry = h.entry;
    kept = h.stays;
    down = h.down;
    unknown = h.unknown;
    nowhere = h.nowhere;
    reply = refl;
    change = refl;
  };
  fits = knows-fits O q (known_below r place (known_table p)) blocks h.after a;
})

-- a replica lacks a part among workers
pub lost : (O : Block → Type 0) (up : ℕ → Bool) (p : Client) (r place : ℕ) (o : Option ℕ) (n : ℕ) (digest : List ℕ) (source need : ℕ) (gained : List Entry) (noted : List ℕ) (q : Client) → SeesHere p gained → LosesHere up (seeing gained noted p) r place o n digest source need q → (t : TableState) → Fits O p t → RestsAnd O q (λ at u. LacksSource up at r (NoSource (block_name o n) source) u) t
lost O up p r place o n digest source need gained noted q s h = rests-and O p q gained noted (λ at u. LacksSource up at r (NoSource (block_name o n) source) u) s (lost-here O up (seeing gained noted p) r place o n digest source need q h)

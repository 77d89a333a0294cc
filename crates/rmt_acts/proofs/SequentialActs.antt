-- A sequential SELECT reads the active parts without those that cover the part which waits for its quorum.
use Rattle.std.proofs.Common.{◌≡◌, ℕ, ◌∙◌, ◌&&◌, ◌||◌, Bool, true, false, not, cond, nat_eq, List, [], ◌∷◌, map, filter, refl, ap, sym, subst}
use Rattle.std.specs.List.{list_any}
use Rattle.std.specs.Option.{option_map, option_and_then}
use Rattle.std.specs.declared.option.Option.{Option}
use Rattle.std.specs.declared.option.Option.TheVariants.{Some, None}
use Rattle.rmt_names.specs.Names.{Name, covers}
use Rattle.rmt_entries.specs.Entries.{result_name}
use Rattle.rmt_model.specs.Lawful.{entry_at}
use Rattle.rmt_model.specs.Quorum.{Pending, Quorum}
use Rattle.rmt_model.specs.CopiedParts.{names_of}
use Rattle.rmt_partset.specs.Snapshots.{NamedData, names_in, data_in}
use Rattle.rmt_table.specs.declared.quorum.Quorum.{Quorum as Told}
use Rattle.rmt_table.specs.Quorums.{IsShownPending, IsShownQuorum}
use Rattle.rmt_model.proofs.Standing.{fair-fewer}
use Rattle.rmt_events.specs.Views.{Replica}
use Rattle.rmt_events.specs.Clusters.{Cluster}
use Rattle.rmt_statement_model.specs.TableStates.{TableState, covered_by, data_at, is_shown, learned_shown, shown_at}
use Rattle.rmt_statement_model.specs.Reads.{IsReading, IsSequentialReading, LacksLast, waiting_part, covers_part, without_part}
use Rattle.rmt_statement_model.specs.Shows.{Knows, Shows}
use Rattle.rmt_reply.specs.declared.refusal.Refusal.TheVariants.{NotInQuorum}
use Rattle.rmt_sequential.proofs.KeptParts.{is_kept, names-kept, data-kept}

-- ---- what covers a part

-- what one of some passes one of all passes
any-more : (test keep : Name → Bool) (names : List Name) → list_any test (filter keep names) ≡ true → list_any test names ≡ true
any-more test keep [] e = e
any-more test keep (a ∷ names) e = go (keep a) (test a) refl e (any-more test keep names)
  where
    go : (k b : Bool) → test a ≡ b → list_any test (cond k (a ∷ filter keep names) (filter keep names)) ≡ true → (list_any test (filter keep names) ≡ true → list_any test names ≡ true) → b || list_any test names ≡ true
    go k true q h f = refl
    go true false q h f = f (let x : false || list_any test (filter keep names) ≡ true = subst (λ (c : Bool). c || list_any test (filter keep names) ≡ true) q h in x)
    go false false q h f = f h

-- ---- what is known

-- what is shown by fewer names is known too
fewer-shown : (s : Cluster) (t : TableState) (r : ℕ) (part : Option Name) (names : List Name) → Shows s (shown_at r names t) → Shows s (shown_at r (without_part part names) t)
fewer-shown s t r part names h = record {
  table = record {
    schema = h.table.schema;
    log = h.table.log;
    next = h.table.next;
    quorum = h.table.quorum;
    fetching = h.table.fetching;
    knows = λ x i. knows-fewer x (learned_shown t.log (without_part part names) t.known r x.number) (learned_shown t.log names t.known r x.number) (λ j. still x.number j) (h.table.knows x i);
  };
  blocks = h.blocks;
}
  where
    shown : (o : Option Name) → covered_by (without_part part names) o ≡ true → covered_by names o ≡ true
    shown None e = e
    shown (Some a) e = any-more (λ b. covers b a) (λ b. not (covers_part part b)) names e

    still : (k j : ℕ) → learned_shown t.log (without_part part names) t.known r k j ≡ true → learned_shown t.log names t.known r k j ≡ true
    still k j e = go (nat_eq k r) (is_shown t.log (without_part part names) j) (is_shown t.log names j) refl refl e
      where
        go : (a b c : Bool) → is_shown t.log (without_part part names) j ≡ b → is_shown t.log names j ≡ c → (a && b) || t.known k j ≡ true → (a && c) || t.known k j ≡ true
        go false b c p q g = g
        go true b true p q g = refl
        go true false false p q g = g
        go true true false p q g = let y = shown (option_and_then result_name (entry_at t.log j)) p in absurd (cc)

    knows-fewer : (x : Replica) (few many : ℕ → Bool) → ((j : ℕ) → few j ≡ true → many j ≡ true) → Knows x many → Knows x few
    knows-fewer x few many f k = record { within = λ i l. past (few i) refl (k.within i l); fair = fair-fewer x.log few many (names_of x.parts) (λ j l e. f j e) k.fair }
      where
        past : (b : Bool) {i : ℕ} → few i ≡ b → many i ≡ false → b ≡ false
        past false e m = refl
        past true {i} e m = let y = f i e in absurd (cc)

-- ---- what is read

-- what is told of a quorum
pub told-part : (q : Quorum) (told : Told) → IsShownQuorum q told → told.pending ≡ waiting_part q
told-part q told k = go q.pending k.waits
  where
    go : (o : Option Pending) → IsShownPending o told → told.pending ≡ option_map (λ (p : Pending). p.part) o
    go None w = w.0
    go (Some p) w = w.0

-- the parts that are read
pub reads-kept : (s : Cluster) (r : ℕ) (part last : Option Name) (active kept : List NamedData) → part ≡ waiting_part s.table.quorum → last ≡ s.table.quorum.last → ((t : TableState) → Shows s t → IsReading t r active) → kept ≡ filter (is_kept part) active
    → ((a : Name) → last ≡ Some a → list_any (λ b. covers b a) (names_in kept) ≡ true) → (t : TableState) → Shows s t → IsSequentialReading t r kept
reads-kept s r part last active kept p l f k c t h =
    let reading = f t h in
    record {
      active = names_in active;
      fair = reading.fair;
      read = ap names_in k ∙ (names-kept part active ∙ ap (λ (o : Option Name). without_part o (names_in active)) (p ∙ ap waiting_part (sym h.table.quorum)));
      last = λ a e. c a (l ∙ (ap (λ (q : Quorum). q.last) (sym h.table.quorum) ∙ e));
      holds = subst (λ (ps : List NamedData). data_in ps ≡ map (data_at t) (names_in ps)) (sym k) (data-kept part (data_at t) active reading.holds);
    }

-- what they hold is known
pub known-kept : (s : Cluster) (r : ℕ) (part : Option Name) (active kept : List NamedData) → ((t : TableState) → Shows s t → Shows s (shown_at r (names_in active) t)) → kept ≡ filter (is_kept part) active → (t : TableState) → Shows s t → Shows s (shown_at r (names_in kept) t)
known-kept s r part active kept f k t h = subst (λ (ns : List Name). Shows s (shown_at r ns t)) (sym (ap names_in k ∙ names-kept part active)) (fewer-shown s t r part (names_in active) (f t h))

-- none of them covers the last part
pub lacks-last : (s : Cluster) (r : ℕ) (part last : Option Name) (a : Name) (active kept : List NamedData) → part ≡ waiting_part s.table.quorum → last ≡ s.table.quorum.last → ((t : TableState) → Shows s t → IsReading t r active) → kept ≡ filter (is_kept part) active
    → last ≡ Some a → list_any (λ b. covers b a) (names_in kept) ≡ false → (t : TableState) → Shows s t → LacksLast t r (NotInQuorum a)
lacks-last s r part last a active kept p l f k e c t h = record {
  active = names_in active;
  fair = (f t h).fair;
  part = a;
  last = ap (λ (q : Quorum). q.last) h.table.quorum ∙ (sym l ∙ e);
  uncovered = ap (λ (ns : List Name). list_any (λ b. covers b a) ns) (sym (ap names_in k ∙ (names-kept part active ∙ ap (λ (o : Option Name). without_part o (names_in active)) (p ∙ ap waiting_part (sym h.table.quorum))))) ∙ c;
  reply = refl;
}

-- What is tracked is owned.
use Rattle.std.proofs.Common.{◌≡◌, refl, sym, ap, subst, ◌∙◌, arith, Bool, true, false, cond, List, [], ◌∷◌, ◌++◌, ◌||◌, ◌&&◌}
use Rattle.std.specs.Prelude.{ℕ, suc, zero, is_some, nat_eq, slice_get, slice_set}
use mathlib.Core.Bool.{true≢false}
use Rattle.std.specs.declared.option.Option.{Option}
use Rattle.std.specs.declared.option.Option.TheVariants.{Some, None}
use Rattle.rmt_paths.specs.Paths.{Names}
use Rattle.rmt_paths.specs.PathOrder.{is_path}
use Rattle.rmt_tree.specs.Trees.{Node, is_session, is_owned_by}
use Rattle.rmt_tree.specs.declared.tracked_session.TrackedSession.{TrackedSession}
use Rattle.rmt_tree.specs.Slots.{Slots, node_in, owner_of, left_of, HaveSameNodes, PutsSlot}
use Rattle.rmt_tree.specs.SessionTracker.{session_lists, is_tracked, has_owned, IsListedBy, IsListed, OthersStayListed, ApartStayListed, OwnedStayListed, TrackOwned, TrackChanged, TrackNoMore, TrackOneMore, TrackMore}
use Rattle.rmt_tree.proofs.TrackerLemmas.{inside}
use Rattle.rmt_paths.proofs.OrderLemmas.{is_path-is}

or_case : {P : Type 0} (a b : Bool) → (a || b) ≡ true → (a ≡ true → P) → (b ≡ true → P) → P
or_case true b has f g = f refl
or_case false b has f g = g has

or_left : (a b : Bool) → a ≡ true → (a || b) ≡ true
or_left true b is = refl
or_left false b is = absurd (true≢false (sym is))

or_right : (a b : Bool) → b ≡ true → (a || b) ≡ true
or_right true b is = refl
or_right false b is = is

and_left : (a b : Bool) → (a && b) ≡ true → a ≡ true
and_left true b is = refl
and_left false b is = is

and_right : (a b : Bool) → (a && b) ≡ true → b ≡ true
and_right true b is = is
and_right false b is = absurd (true≢false (sym is))

and_both : (a b : Bool) → a ≡ true → b ≡ true → (a && b) ≡ true
and_both true b is also = also
and_both false b is also = is

later : (n : ℕ) → nat_eq (suc n) 0 ≡ false
later n = grind arith

sooner : (k : ℕ) → nat_eq 0 (suc k) ≡ false
sooner k = grind arith

both_later : (n k : ℕ) → nat_eq (suc n) (suc k) ≡ nat_eq n k
both_later n k = grind arith

itself : (n : ℕ) → nat_eq n n ≡ true
itself n = grind arith

eq_is : (s i : ℕ) → nat_eq s i ≡ true → s ≡ i
eq_is s i is = grind (arith, is)

-- a session owns a node where it is the node's owner
pub owned_by : (s : ℕ) (x : Option Node) → is_owned_by s x ≡ is_session s (owner_of x)
owned_by s None = refl
owned_by s (Some n) = refl

-- a path is added to a set, and removed from it
pub added : (b c had has : Bool) → b ≡ c → has ≡ cond c true had → has ≡ true → (had || b) ≡ true
added b true had has is at now = or_right had b is
added b false had has is at now = or_left had b (sym at ∙ now)

pub fewer : (c had has : Bool) → has ≡ cond c false had → has ≡ true → had ≡ true
fewer true had has at now = absurd (true≢false (sym now ∙ at))
fewer false had has at now = sym at ∙ now

-- one of a list set
get-set : (ss : List TrackedSession) (k j : ℕ) (s t : TrackedSession) → slice_get ss k ≡ Some s → slice_get (slice_set ss k t) j ≡ cond (nat_eq k j) (Some t) (slice_get ss j)
get-set [] k j s t is = absurd (true≢false (sym (ap is_some is)))
get-set (x ∷ ss) zero zero s t is = ap (λ b. cond b (Some t) (Some x)) (sym (itself 0))
get-set (x ∷ ss) zero (suc j) s t is = ap (λ b. cond b (Some t) (slice_get ss j)) (sym (sooner j))
get-set (x ∷ ss) (suc k) zero s t is = ap (λ b. cond b (Some t) (Some x)) (sym (later k))
get-set (x ∷ ss) (suc k) (suc j) s t is = get-set ss k j s t is ∙ ap (λ b. cond b (Some t) (slice_get ss j)) (sym (both_later k j))

-- a session that is set tracks no more
pub TrackNoMore-set : (ss : List TrackedSession) (k : ℕ) (s t : TrackedSession) → slice_get ss k ≡ Some s → ((p : Names) → is_tracked (Some t) p ≡ true → is_tracked (Some s) p ≡ true) → TrackNoMore ss (slice_set ss k t)
TrackNoMore-set [] k s t is fewer p j has = has
TrackNoMore-set (x ∷ ss) zero s t is fewer p zero has = ap (λ y. is_tracked (Some y) p) (inside x s is) ∙ fewer p has
TrackNoMore-set (x ∷ ss) zero s t is fewer p (suc j) has = has
TrackNoMore-set (x ∷ ss) (suc k) s t is fewer p zero has = has
TrackNoMore-set (x ∷ ss) (suc k) s t is fewer p (suc j) has = TrackNoMore-set ss k s t is fewer p j has

-- a new session tracks nothing
pub TrackNoMore-push : (ss : List TrackedSession) (t : TrackedSession) → ((p : Names) → is_tracked (Some t) p ≡ false) → TrackNoMore ss (ss ++ t ∷ [])
TrackNoMore-push [] t empty p zero has = absurd (true≢false (sym has ∙ empty p))
TrackNoMore-push [] t empty p (suc j) has = has
TrackNoMore-push (x ∷ ss) t empty p zero has = has
TrackNoMore-push (x ∷ ss) t empty p (suc j) has = TrackNoMore-push ss t empty p j has

-- the other sessions list what they did
pub ApartStayListed-set : (ss : List TrackedSession) (k : ℕ) (s t : TrackedSession) (o : Option ℕ) → o ≡ Some k → slice_get ss k ≡ Some s → ApartStayListed ss (slice_set ss k t) o
ApartStayListed-set ss k s t o owner is p j apart has = subst (λ x. session_lists x p ≡ true) (sym (get-set ss k j s t is ∙ ap (λ b. cond b (Some t) (slice_get ss j)) (sym (ap (is_session j) owner) ∙ apart))) has

-- a path is gone from those of a session
pub gone-set : (ss : List TrackedSession) (k : ℕ) (s t : TrackedSession) (o : Option ℕ) (p : Names) → o ≡ Some k → slice_get ss k ≡ Some s → is_tracked (Some t) p ≡ false → (j : ℕ) → is_session j o ≡ true → is_tracked (slice_get (slice_set ss k t) j) p ≡ false
gone-set ss k s t o p owner is gone j same = ap (λ x. is_tracked x p) (get-set ss k j s t is ∙ ap (λ b. cond b (Some t) (slice_get ss j)) (sym (ap (is_session j) owner) ∙ same)) ∙ gone

more_at : (b : Bool) (p q : Names) (s t : TrackedSession) (x y : Option TrackedSession) → y ≡ cond b (Some t) x → (b ≡ true → x ≡ Some s) → (is_tracked (Some t) p ≡ true → (is_tracked (Some s) p || is_path p q) ≡ true) → is_tracked y p ≡ true → (is_tracked x p || (is_path p q && b)) ≡ true
more_at true p q s t x y at is more has = or_case (is_tracked (Some s) p) (is_path p q) (more (sym (ap (λ z. is_tracked z p) at) ∙ has))
    (λ was. or_left _ _ (ap (λ z. is_tracked z p) (is refl) ∙ was))
    (λ here. or_right (is_tracked x p) _ (and_both _ true here refl))
more_at false p q s t x y at is more has = or_left _ _ (sym (ap (λ z. is_tracked z p) at) ∙ has)

-- a session that is set tracks one path more
pub TrackOneMore-set : (ss : List TrackedSession) (k : ℕ) (s t : TrackedSession) (q : Names) (o : Option ℕ) → o ≡ Some k → slice_get ss k ≡ Some s → ((p : Names) → is_tracked (Some t) p ≡ true → (is_tracked (Some s) p || is_path p q) ≡ true) → TrackOneMore ss (slice_set ss k t) q o
TrackOneMore-set ss k s t q o owner is more p j has = subst (λ o. (is_tracked (slice_get ss j) p || (is_path p q && is_session j o)) ≡ true) (sym owner)
    (more_at (nat_eq k j) p q s t (slice_get ss j) (slice_get (slice_set ss k t) j) (get-set ss k j s t is) (λ same. ap (slice_get ss) (sym (eq_is k j same)) ∙ is) (more p) has)

-- one more of the changes is tracked
pub TrackMore-next : (whole rest : Slots) (e : Names × Option Node) (first old new : List TrackedSession) → TrackOneMore old new e.0 (owner_of e.1) → ((p : Names) (s : ℕ) → has_owned (e ∷ rest) p s ≡ true → has_owned whole p s ≡ true) → TrackMore first old whole → TrackMore first new whole
TrackMore-next whole rest e first old new one within more p s has = or_case (is_tracked (slice_get old s) p) _ (one p s has)
    (λ was. more p s was)
    (λ here. or_right (is_tracked (slice_get first s) p) _ (within p s (or_left _ (has_owned rest p s) (and_both _ _ (and_left _ _ here) (owned_by s e.1 ∙ and_right (is_path p e.0) _ here)))))

pub within-next : (whole rest : Slots) (e : Names × Option Node) → ((p : Names) (s : ℕ) → has_owned (e ∷ rest) p s ≡ true → has_owned whole p s ≡ true) → (p : Names) (s : ℕ) → has_owned rest p s ≡ true → has_owned whole p s ≡ true
within-next whole rest e within p s has = within p s (or_right (is_path p e.0 && is_owned_by s e.1) _ has)

no_changes : (a b : Bool) → b ≡ false → (a || b) ≡ true → a ≡ true
no_changes true b none is = refl
no_changes false b none is = absurd (true≢false (sym is ∙ none))

-- where there are no changes
pub TrackOwned-end : (tracker : List TrackedSession) (es changes : Slots) → changes ≡ [] → TrackChanged tracker es changes → TrackOwned tracker es
TrackOwned-end tracker es changes none exact p s has = no_changes _ (has_owned changes p s) (ap (λ c. has_owned c p s) none) (exact p s has)

-- what stayed listed before memory was given back stays listed after it
pub unprepared_stay : (es es' : Slots) (old mid new : List TrackedSession) → HaveSameNodes es es' → OwnedStayListed es old mid → OwnedStayListed es' mid new → OwnedStayListed es old new
unprepared_stay es es' old mid new same first then p s owned has = then p s (ap (is_owned_by s) (same p) ∙ owned) (first p s owned has)

stray_at : (b c : Bool) (es rest : Slots) (e : Names × Option Node) (new : List TrackedSession) (p : Names) (s : ℕ) → is_path p e.0 ≡ b → is_owned_by s (node_in es e.0) ≡ c → ((s : ℕ) → is_session s (owner_of e.1) ≡ true → is_session s (owner_of (node_in es e.0)) ≡ false → is_tracked (slice_get new s) e.0 ≡ false) → is_tracked (slice_get new s) p ≡ true → (b && is_owned_by s e.1) ≡ true → is_owned_by s (node_in es p) ≡ true
stray_at false c es rest e new p s at own gone has here = absurd (true≢false (sym here))
stray_at true true es rest e new p s at own gone has here = ap (λ q. is_owned_by s (node_in es q)) (is_path-is p e.0 at) ∙ own
stray_at true false es rest e new p s at own gone has here = absurd (true≢false (sym has ∙ ap (is_tracked (slice_get new s)) (is_path-is p e.0 at) ∙ gone s (sym (owned_by s e.1) ∙ here) (sym (owned_by s (node_in es e.0)) ∙ own)))

-- one more of the changes is tracked only where its node is owned
pub TrackChanged-next : (es rest : Slots) (e : Names × Option Node) (old new : List TrackedSession) → TrackNoMore old new → ((s : ℕ) → is_session s (owner_of e.1) ≡ true → is_session s (owner_of (node_in es e.0)) ≡ false → is_tracked (slice_get new s) e.0 ≡ false) → TrackChanged old es (e ∷ rest) → TrackChanged new es rest
TrackChanged-next es rest e old new fewer gone exact p s has = or_case (is_owned_by s (node_in es p)) _ (exact p s (fewer p s has))
    (λ owned. or_left _ _ owned)
    (λ changed. or_case (is_path p e.0 && is_owned_by s e.1) (has_owned rest p s) changed
    (λ here. or_left _ _ (stray_at (is_path p e.0) (is_owned_by s (node_in es e.0)) es rest e new p s refl refl gone has here))
    (λ still. or_right (is_owned_by s (node_in es p)) _ still))

owned_stay_at : (b : Bool) (es : Slots) (p q : Names) (s : ℕ) (old new : List TrackedSession) → is_path p q ≡ b → OthersStayListed old new q → ((s : ℕ) → is_session s (owner_of (node_in es q)) ≡ true → session_lists (slice_get old s) q ≡ true → session_lists (slice_get new s) q ≡ true) → is_owned_by s (node_in es p) ≡ true → session_lists (slice_get old s) p ≡ true → session_lists (slice_get new s) p ≡ true
owned_stay_at false es p q s old new at others kept owned has = others p s at has
owned_stay_at true es p q s old new at others kept owned has =
    let is = is_path-is p q at in
    ap (session_lists (slice_get new s)) is ∙ kept s (sym (owned_by s (node_in es q)) ∙ sym (ap (λ z. is_owned_by s (node_in es z)) is) ∙ owned) (sym (ap (session_lists (slice_get old s)) is) ∙ has)

-- one path is no longer listed but with its owner
pub owned_stay_next : (es : Slots) (q : Names) (first old new : List TrackedSession) → OthersStayListed old new q → ((s : ℕ) → is_session s (owner_of (node_in es q)) ≡ true → session_lists (slice_get old s) q ≡ true → session_lists (slice_get new s) q ≡ true) → OwnedStayListed es first old → OwnedStayListed es first new
owned_stay_next es q first old new others kept stay p s owned has = owned_stay_at (is_path p q) es p q s old new refl others kept owned (stay p s owned has)

seated_by : (es : Slots) (old new : List TrackedSession) (p : Names) (n : Node) (o : Option ℕ) → node_in es p ≡ Some n → o ≡ n.owner → OwnedStayListed es old new → IsListedBy old p o → IsListedBy new p o
seated_by es old new p n None at owner stay is = tt
seated_by es old new p n (Some s) at owner stay is = stay p s (ap (is_owned_by s) at ∙ sym (ap (is_session s) owner) ∙ itself s) is

-- a node stays listed with its owner
pub owned_seated : (es : Slots) (old new : List TrackedSession) (p : Names) (x : Option Node) → node_in es p ≡ x → OwnedStayListed es old new → IsListed old p x → IsListed new p x
owned_seated es old new p None at stay is = tt
owned_seated es old new p (Some n) at stay is = seated_by es old new p n n.owner at refl stay is

appended : {P : Type 0} (es : Slots) (e : Names × Option Node) (p : Names) (s : ℕ) → has_owned (es ++ e ∷ []) p s ≡ true → (has_owned es p s ≡ true → P) → ((is_path p e.0 && is_owned_by s e.1) ≡ true → P) → P
appended [] e p s has f g = or_case (is_path p e.0 && is_owned_by s e.1) false has g (λ no. absurd (true≢false (sym no)))
appended (x ∷ es) e p s has f g = or_case (is_path p x.0 && is_owned_by s x.1) (has_owned (es ++ e ∷ []) p s) has
    (λ here. f (or_left _ _ here))
    (λ below. appended es e p s below (λ is. f (or_right (is_path p x.0 && is_owned_by s x.1) _ is)) g)

put_at : (b c : Bool) (es es' : Slots) (new : List TrackedSession) (q p : Names) (r : ℕ) (s : Option Node) → is_path q p ≡ b → is_owned_by r s ≡ c → node_in es' q ≡ cond b s (node_in es q) → (is_session r (owner_of (node_in es p)) ≡ true → is_session r (owner_of s) ≡ false → is_tracked (slice_get new r) p ≡ false) → is_tracked (slice_get new r) q ≡ true → is_owned_by r (node_in es q) ≡ true → is_owned_by r (node_in es' q) ≡ true
put_at false c es es' new q p r s at own puts gone has owned = ap (is_owned_by r) puts ∙ owned
put_at true true es es' new q p r s at own puts gone has owned = ap (is_owned_by r) puts ∙ own
put_at true false es es' new q p r s at own puts gone has owned =
    let is = is_path-is q p at in
    absurd (true≢false (sym has ∙ ap (is_tracked (slice_get new r)) is ∙ gone (sym (owned_by r (node_in es p)) ∙ sym (ap (λ z. is_owned_by r (node_in es z)) is) ∙ owned) (sym (owned_by r s) ∙ own)))

-- once the last change is made
pub TrackChanged-popped : (es es' changes changes' : Slots) (old new : List TrackedSession) (p : Names) (s : Option Node) → changes ≡ changes' ++ (p, s) ∷ [] → PutsSlot es es' p s → TrackNoMore old new → ((r : ℕ) → is_session r (owner_of (node_in es p)) ≡ true → is_session r (owner_of s) ≡ false → is_tracked (slice_get new r) p ≡ false) → TrackChanged old es changes → TrackChanged new es' changes'
TrackChanged-popped es es' changes changes' old new p s removal puts fewer gone exact q r has = or_case (is_owned_by r (node_in es q)) _ (exact q r (fewer q r has))
    (λ owned. or_left _ _ (put_at (is_path q p) (is_owned_by r s) es es' new q p r s refl refl (puts q) (gone r) has owned))
    (λ changed. appended changes' (p, s) q r (sym (ap (λ c. has_owned c q r) removal) ∙ changed)
    (λ still. or_right (is_owned_by r (node_in es' q)) _ still)
    (λ here. or_left _ _ (ap (is_owned_by r) (puts q ∙ ap (λ b. cond b s (node_in es q)) (and_left (is_path q p) (is_owned_by r s) here)) ∙ and_right (is_path q p) (is_owned_by r s) here)))

-- the session that ends tracks nothing, and the others no more than before
abbrev pub TrackOthers : List TrackedSession → List TrackedSession → ℕ → Type 0
TrackOthers old new i = (p : Names) (s : ℕ) → is_tracked (slice_get new s) p ≡ true → (nat_eq i s ≡ false) × (is_tracked (slice_get old s) p ≡ true)

others_at : (b : Bool) (t : TrackedSession) (p : Names) (x y : Option TrackedSession) → y ≡ cond b (Some t) x → is_tracked (Some t) p ≡ false → is_tracked y p ≡ true → (b ≡ false) × (is_tracked x p ≡ true)
others_at true t p x y at empty has = absurd (true≢false (sym has ∙ ap (λ z. is_tracked z p) at ∙ empty))
others_at false t p x y at empty has = (refl, sym (ap (λ z. is_tracked z p) at) ∙ has)

pub TrackOthers-set : (ss : List TrackedSession) (k : ℕ) (s t : TrackedSession) → slice_get ss k ≡ Some s → ((p : Names) → is_tracked (Some t) p ≡ false) → TrackOthers ss (slice_set ss k t) k
TrackOthers-set ss k s t is empty p j has = others_at (nat_eq k j) t p (slice_get ss j) (slice_get (slice_set ss k t) j) (get-set ss k j s t is) (empty p) has

left_owned_by : (i s : ℕ) (n : Node) (b : Bool) (o : Option ℕ) → is_session i o ≡ b → o ≡ n.owner → nat_eq i s ≡ false → is_session s n.owner ≡ true → is_owned_by s (cond b None (Some n)) ≡ true
left_owned_by i s n true None is owner apart owned = absurd (true≢false (sym is))
left_owned_by i s n true (Some o) is owner apart owned = absurd (true≢false (sym owned ∙ sym (ap (is_session s) owner) ∙ ap (λ z. nat_eq z s) (eq_is o i is) ∙ apart))
left_owned_by i s n false o is owner apart owned = owned

-- a node of another session is left
pub left_owned : (i s : ℕ) (x : Option Node) → nat_eq i s ≡ false → is_owned_by s x ≡ true → is_owned_by s (left_of i x) ≡ true
left_owned i s None apart owned = owned
left_owned i s (Some n) apart owned = left_owned_by i s n (is_session i n.owner) n.owner refl refl apart owned

-- The operations of a quorum, and what becomes of it.
use Rattle.std.proofs.Common.{◌≡◌, ℕ, ◌<◌, ◌≤◌, Bool, true, false, cond, List, [], ◌∷◌, length, nat_le, nat_lt, Option, Some, None, sym, ap, arith, ◌∙◌}
use Rattle.std.proofs.lemmas.Bool.Decides.{nat_tests}
use Rattle.rmt_names.specs.Names.{Name}
use Rattle.rmt_tree.specs.declared.op.Op.{Op}
use Rattle.rmt_tree.specs.declared.op.Op.TheVariants as op
use Rattle.rmt_znodes.specs.declared.znode.Znode.TheVariants.{Status, LastPart}
use Rattle.rmt_znodes.specs.Znodes.{znode_path}
use Rattle.rmt_model.specs.Quorum.{Pending, Quorum, is_dropped_by, noted_with, quorum_noted, quorum_after_note}
use Rattle.rmt_table_model.specs.Nodes.{status_text, status_ops, noted_ops, last_ops, pending_drop_ops, last_drop_ops}

-- ---- opened

pub none-opened : (a : Name) (need : ℕ) → need < 2 → status_ops a need ≡ []
none-opened a need l =
    let e : nat_le 2 need ≡ false = grind (arith, nat_tests) in
    ap (λ (b : Bool). cond b (op.Create (znode_path Status) (status_text (record { part = a; need = need; noted = [] })) false None ∷ []) []) e

pub one-opened : (a : Name) (need : ℕ) (made : Op) (text : List ℕ) → 2 ≤ need → text ≡ status_text (record { part = a; need = need; noted = [] }) → made ≡ op.Create (znode_path Status) text false None → made ∷ [] ≡ status_ops a need
one-opened a need made text l t m =
    let e : nat_le 2 need ≡ true = grind (arith, nat_tests) in
    ap (λ (o : Op). o ∷ []) (m ∙ ap (λ (x : List ℕ). op.Create (znode_path Status) x false None) t)
    ∙ sym (ap (λ (b : Bool). cond b (op.Create (znode_path Status) (status_text (record { part = a; need = need; noted = [] })) false None ∷ []) []) e)

-- ---- noted

-- too few yet
pub noted-waits : (q : Pending) (noted : List ℕ) (last : Option Name) (part : Name) (need : ℕ) (text : List ℕ) (made : Op) → part ≡ q.part → need ≡ q.need → length noted < need
    → text ≡ status_text (record { part = part; need = need; noted = noted }) → made ≡ op.Set (znode_path Status) text None → made ∷ [] ≡ noted_ops q noted last
noted-waits q noted last part need text made p n l t m =
    let e : nat_lt (length noted) q.need ≡ true = grind (arith, nat_tests) in
    ap (λ (o : Op). o ∷ []) (m ∙ ap (λ (x : List ℕ). op.Set (znode_path Status) x None) (t ∙ ap (λ (a : Name). status_text (record { part = a; need = need; noted = noted })) p ∙ ap (λ (k : ℕ). status_text (record { part = q.part; need = k; noted = noted })) n))
    ∙ sym (ap (λ (b : Bool). cond b (op.Set (znode_path Status) (status_text (record { part = q.part; need = q.need; noted = noted })) None ∷ []) (op.Delete (znode_path Status) None ∷ last_ops q.part last)) e)

-- enough of them
pub noted-met : (q : Pending) (noted : List ℕ) (last there : Option Name) (part : Name) (need : ℕ) (gone made : Op) → part ≡ q.part → need ≡ q.need → there ≡ last → need ≤ length noted
    → gone ≡ op.Delete (znode_path Status) None → made ∷ [] ≡ last_ops part there → gone ∷ made ∷ [] ≡ noted_ops q noted last
noted-met q noted last there part need gone made p n t l g m =
    let e : nat_lt (length noted) q.need ≡ false = grind (arith, nat_tests) in
    ap (λ (o : Op). o ∷ made ∷ []) g ∙ ap (λ (os : List Op). op.Delete (znode_path Status) None ∷ os) (m ∙ ap (λ (a : Name). last_ops a there) p ∙ ap (last_ops q.part) t)
    ∙ sym (ap (λ (b : Bool). cond b (op.Set (znode_path Status) (status_text (record { part = q.part; need = q.need; noted = noted })) None ∷ []) (op.Delete (znode_path Status) None ∷ last_ops q.part last)) e)

-- what was read is what is pending
pub same-pending : (o : Option Pending) (a b : Pending) → o ≡ Some a → o ≡ Some b → a ≡ b
same-pending o a b e f = cc

pub none-pending : (o : Option Pending) (q : Pending) → o ≡ None → o ≡ Some q → ⊥
none-pending o q e f = absurd (cc)

-- the quorum, met by a note
pub note-met : (r : ℕ) (s : Quorum) (w : Pending) (part : Name) (need : ℕ) (noted : List ℕ) (len : ℕ) → s.pending ≡ Some w → part ≡ w.part → need ≡ w.need → noted ≡ noted_with r w.noted → len ≡ length noted → need ≤ len
    → record { pending = None; last = Some part } ≡ quorum_after_note r s
note-met r s w part need noted len e p n f g l = go s.pending s.last e
  where
    met : nat_lt (length (noted_with r w.noted)) w.need ≡ false
    met = let k : length noted ≡ length (noted_with r w.noted) = ap length f in grind (arith, nat_tests)

    go : (o : Option Pending) (last : Option Name) → o ≡ Some w → record { pending = None; last = Some part } ≡ quorum_after_note r (record { pending = o; last = last })
    go None last i = absurd (cc)
    go (Some x) last i =
        let same : x ≡ w = cc in
        ap (λ (a : Name). record { pending = None; last = Some a }) p
        ∙ sym (ap (λ (b : Bool). cond b (record { pending = Some (record { part = w.part; need = w.need; noted = noted_with r w.noted }); last = last }) (record { pending = None; last = Some w.part })) met)
        ∙ sym (ap (λ (y : Pending). quorum_noted y (noted_with r y.noted) last) same)

-- ---- dropped

pub pending-dropped : (p : Option ℕ) (n : ℕ) (o : Option Pending) (w : Pending) (gone : Op) → o ≡ Some w → is_dropped_by p n w.part ≡ true → gone ≡ op.Delete (znode_path Status) None → gone ∷ [] ≡ pending_drop_ops p n o
pending-dropped p n o w gone e d g =
    ap (λ (x : Op). x ∷ []) g ∙ sym (ap (λ (b : Bool). cond b (op.Delete (znode_path Status) None ∷ []) []) d) ∙ sym (ap (pending_drop_ops p n) e)

pub last-dropped : (p : Option ℕ) (n : ℕ) (o : Option Name) (a : Name) (gone : Op) → o ≡ Some a → is_dropped_by p n a ≡ true → gone ≡ op.Delete (znode_path LastPart) None → gone ∷ [] ≡ last_drop_ops p n o
last-dropped p n o a gone e d g =
    ap (λ (x : Op). x ∷ []) g ∙ sym (ap (λ (b : Bool). cond b (op.Delete (znode_path LastPart) None ∷ []) []) d) ∙ sym (ap (last_drop_ops p n) e)

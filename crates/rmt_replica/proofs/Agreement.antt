-- Drained replicas agree.
use Rattle.std.proofs.Common.{◌≡◌, inl, inr, List, [], ◌∷◌, ◌++◌, map, refl, sym, ap, subst, ◌∙◌}
use Rattle.rmt_values.specs.Rows.{Shape}
use Rattle.rmt_names.specs.Names.{Name}
use Rattle.rmt_entries.specs.declared.entry.Entry.{Entry}
use Rattle.rmt_block.specs.Blocks.{BlockView, id_of, NoneLike, Clear}
use Rattle.rmt_block.specs.declared.block_id.BlockId.{BlockId}
use Rattle.rmt_granules.specs.Granules.{PartView as Data}
use Rattle.rmt_model.specs.Words.{Has, Each}
use Rattle.rmt_model.specs.Live.{live}
use Rattle.rmt_model.specs.Lawful.{Lawful}
use Rattle.rmt_model.proofs.Drained.{fair-live}
use Rattle.rmt_queue.specs.Marks.{done_at}
use Rattle.rmt_part.specs.Lineages.{AcceptedView, PartValue}
use Rattle.rmt_part.proofs.SameBlocks as part
use Rattle.rmt_partset.specs.Snapshots.{NamedData}
use Rattle.rmt_partset.specs.ActiveParts.{part_names, shown}
use Rattle.rmt_replica.specs.Parts.{IsMadeIn, part_blocks, part_ids}
use Rattle.rmt_replica.specs.Replicas.{ReplicaView, IsStandingReplica, IsDrained}

pub drained-live : (r : ReplicaView) → IsStandingReplica r → IsDrained r → part_names r.parts ≡ live r.log
drained-live r s d = fair-live r.schema r.log (done_at r.done) (part_names r.parts) s.lawful s.fair d

pub same-names : (r s : ReplicaView) → IsStandingReplica r → IsStandingReplica s → IsDrained r → IsDrained s → r.log ≡ s.log → part_names r.parts ≡ part_names s.parts
same-names r s h k d e l = drained-live r h d ∙ (ap live l ∙ sym (drained-live s k e))

map-append : {A B : Type 0} (f : A → B) (xs ys : List A) → map f (xs ++ ys) ≡ map f xs ++ map f ys
map-append f [] ys = refl
map-append f (x ∷ xs) ys = ap (λ zs. f x ∷ zs) (map-append f xs ys)

append-assoc : {A : Type 0} (xs ys zs : List A) → (xs ++ ys) ++ zs ≡ xs ++ (ys ++ zs)
append-assoc [] ys zs = refl
append-assoc (x ∷ xs) ys zs = ap (λ ws. x ∷ ws) (append-assoc xs ys zs)

-- the blocks of one part
abbrev blocks_of : PartValue → List BlockView
blocks_of p = map (λ b. b.block) p.blocks

ids-of-blocks : (bs : List AcceptedView) → map id_of (map (λ b. b.block) bs) ≡ map (λ b. id_of b.block) bs
ids-of-blocks [] = refl
ids-of-blocks (b ∷ bs) = ap (λ (ids : List BlockId). id_of b.block ∷ ids) (ids-of-blocks bs)

name-head : (a b : Name) (xs ys : List Name) → a ∷ xs ≡ b ∷ ys → a ≡ b
name-head a b xs ys e = cc

name-tail : (a b : Name) (xs ys : List Name) → a ∷ xs ≡ b ∷ ys → xs ≡ ys
name-tail a b xs ys e = cc

-- the ids of the blocks of two parts of one name
one-part : (schema : Shape) (log : List Entry) (p q : PartValue) (other : Shape) → Lawful schema log → IsMadeIn schema log p → IsMadeIn other log q → p.name ≡ q.name → map id_of (blocks_of p) ≡ map id_of (blocks_of q)
one-part schema log p q other l h k e =
    ids-of-blocks p.blocks
    ∙ (part.same-ids p q log h.is_part k.is_part (subst (λ (x : Shape). Lawful x log) (sym h.of_schema) l) h.of_log k.of_log e
    ∙ sym (ids-of-blocks q.blocks))

same-ids-of : (schema other : Shape) (log : List Entry) (ps qs : List PartValue) → Lawful schema log → Each (IsMadeIn schema log) ps → Each (IsMadeIn other log) qs → part_names ps ≡ part_names qs → part_ids ps ≡ part_ids qs
same-ids-of schema other log [] [] l h k e = refl
same-ids-of schema other log [] (q ∷ qs) l h k e = absurd (cc)
same-ids-of schema other log (p ∷ ps) [] l h k e = absurd (cc)
same-ids-of schema other log (p ∷ ps) (q ∷ qs) l h k e =
    map-append id_of (blocks_of p) (part_blocks ps)
    ∙ (ap (λ (ids : List BlockId). ids ++ part_ids ps) (one-part schema log p q other l h.0 k.0 (name-head p.name q.name (part_names ps) (part_names qs) e))
    ∙ (ap (λ (ids : List BlockId). map id_of (blocks_of q) ++ ids) (same-ids-of schema other log ps qs l h.1 k.1 (name-tail p.name q.name (part_names ps) (part_names qs) e))
    ∙ sym (map-append id_of (blocks_of q) (part_blocks qs))))

pub same-ids : (r s : ReplicaView) → IsStandingReplica r → IsStandingReplica s → IsDrained r → IsDrained s → r.log ≡ s.log → part_ids r.parts ≡ part_ids s.parts
same-ids r s h k d e l = same-ids-of r.schema s.schema r.log r.parts s.parts h.lawful h.made (subst (λ (log : List Entry). Each (IsMadeIn s.schema log) s.parts) (sym l) k.made) (same-names r s h k d e l)

-- clear blocks of one id are one
none-like : (b c : BlockView) (bs : List BlockView) → NoneLike b bs → Has bs c → id_of b ≡ id_of c → b ≡ c
none-like b c [] n h e = absurd h
none-like b c (x ∷ bs) n (inl q) e = subst (λ (y : BlockView). id_of b ≡ id_of y → b ≡ y) q n.0 e
none-like b c (x ∷ bs) n (inr h) e = none-like b c bs n.1 h e

has-right : (bs cs : List BlockView) (c : BlockView) → Has cs c → Has (bs ++ cs) c
has-right [] cs c h = h
has-right (b ∷ bs) cs c h = inr (has-right bs cs c h)

has-left : (bs cs : List BlockView) (c : BlockView) → Has bs c → Has (bs ++ cs) c
has-left [] cs c h = absurd h
has-left (b ∷ bs) cs c (inl q) = inl q
has-left (b ∷ bs) cs c (inr h) = inr (has-left bs cs c h)

id-head : (x y : BlockId) (xs ys : List BlockId) → x ∷ xs ≡ y ∷ ys → x ≡ y
id-head x y xs ys e = cc

id-tail : (x y : BlockId) (xs ys : List BlockId) → x ∷ xs ≡ y ∷ ys → xs ≡ ys
id-tail x y xs ys e = cc

clear-one : (bs cs all : List BlockView) → Clear (bs ++ all) → ((c : BlockView) → Has cs c → Has all c) → map id_of bs ≡ map id_of cs → bs ≡ cs
clear-one [] [] all k f e = refl
clear-one [] (c ∷ cs) all k f e = absurd (cc)
clear-one (b ∷ bs) [] all k f e = absurd (cc)
clear-one (b ∷ bs) (c ∷ cs) all k f e =
    ap (λ (x : BlockView). x ∷ bs) (none-like b c (bs ++ all) k.0 (has-right bs all c (f c (inl refl))) (id-head (id_of b) (id_of c) (map id_of bs) (map id_of cs) e))
    ∙ ap (λ (xs : List BlockView). c ∷ xs) (clear-one bs cs all k.1 (λ x h. f x (inr h)) (id-tail (id_of b) (id_of c) (map id_of bs) (map id_of cs) e))

pub same-blocks : (r s : ReplicaView) → IsStandingReplica r → IsStandingReplica s → IsDrained r → IsDrained s → r.log ≡ s.log → Clear (part_blocks r.parts ++ part_blocks s.parts) → part_blocks r.parts ≡ part_blocks s.parts
same-blocks r s h k d e l c = clear-one (part_blocks r.parts) (part_blocks s.parts) (part_blocks s.parts) c (λ x m. m) (same-ids r s h k d e l)

clear-rest : (bs cs : List BlockView) → Clear (bs ++ cs) → Clear cs
clear-rest [] cs c = c
clear-rest (b ∷ bs) cs c = clear-rest bs cs c.1

-- what a query reads of parts of equal names, made in one log of blocks that are clear
same-shown-of : (schema : Shape) (log : List Entry) (ps qs : List PartValue) (all : List BlockView) → Lawful schema log → Each (IsMadeIn schema log) ps → Each (IsMadeIn schema log) qs → part_names ps ≡ part_names qs
    → Clear (part_blocks ps ++ all) → ((c : BlockView) → Has (part_blocks qs) c → Has all c) → shown ps ≡ shown qs
same-shown-of schema log [] [] all l h k e c f = refl
same-shown-of schema log [] (q ∷ qs) all l h k e c f = absurd (cc)
same-shown-of schema log (p ∷ ps) [] all l h k e c f = absurd (cc)
same-shown-of schema log (p ∷ ps) (q ∷ qs) all l h k e c f =
    one p.name q.name p.body q.body name body
    ∙ ap (λ (parts : List NamedData). record { name = q.name; rows = q.body } ∷ parts)
    (same-shown-of schema log ps qs all l h.1 k.1 (name-tail p.name q.name (part_names ps) (part_names qs) e) (clear-rest (blocks_of p) (part_blocks ps ++ all) clear) (λ x m. f x (has-right (blocks_of q) (part_blocks qs) x m)))
  where
    name : p.name ≡ q.name
    name = name-head p.name q.name (part_names ps) (part_names qs) e

    clear : Clear (blocks_of p ++ (part_blocks ps ++ all))
    clear = subst Clear (append-assoc (blocks_of p) (part_blocks ps) all) c

    blocks : blocks_of p ≡ blocks_of q
    blocks = clear-one (blocks_of p) (blocks_of q) (part_blocks ps ++ all) clear (λ x m. has-right (part_blocks ps) all x (f x (has-left (blocks_of q) (part_blocks qs) x m))) (one-part schema log p q schema l h.0 k.0 name)

    body : p.body ≡ q.body
    body = part.same-data p q log h.0.is_part k.0.is_part (subst (λ (x : Shape). Lawful x log) (sym h.0.of_schema) l) h.0.of_log k.0.of_log name (h.0.of_schema ∙ sym k.0.of_schema) blocks

    one : (a b : Name) (x y : Data) → a ≡ b → x ≡ y → ◌≡◌ {A = List NamedData} (record { name = a; rows = x } ∷ shown ps) (record { name = b; rows = y } ∷ shown ps)
    one a b x y u v = cc

pub same-shown : (r s : ReplicaView) → IsStandingReplica r → IsStandingReplica s → IsDrained r → IsDrained s → r.log ≡ s.log → r.schema ≡ s.schema → Clear (part_blocks r.parts ++ part_blocks s.parts) → shown r.parts ≡ shown s.parts
same-shown r s h k d e l w c =
    same-shown-of r.schema r.log r.parts s.parts (part_blocks s.parts) h.lawful h.made
    (subst (λ (x : Shape). Each (IsMadeIn x r.log) s.parts) (sym w) (subst (λ (log : List Entry). Each (IsMadeIn s.schema log) s.parts) (sym l) k.made))
    (same-names r s h k d e l) c (λ x m. m)

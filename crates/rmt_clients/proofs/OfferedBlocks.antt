-- Blocks of parts are the accepted ones where no two offered blocks of one id differ.
use Rattle.std.proofs.Common.{◌≡◌, ℕ, inl, inr, ◌&&◌, Bool, true, false, cond, List, [], ◌∷◌, refl, sym, ap, subst, arith, ◌∙◌, nat_eq}
use Rattle.std.proofs.lemmas.Bool.Decides.{nat_tests}
use Rattle.std.specs.declared.option.Option.{Option}
use Rattle.rmt_values.specs.Rows.{Shape}
use Rattle.rmt_names.specs.Names.{rank, Spans}
use Rattle.rmt_entries.specs.declared.entry.Entry.{Entry}
use Rattle.rmt_entries.specs.declared.entry.Entry.TheVariants.{Get, Merge, Mutate, Mutation, DropRange}
use Rattle.rmt_model.specs.Words.{Has, Each}
use Rattle.rmt_model.specs.Live.{made}
use Rattle.rmt_model.specs.Lawful.{Lawful, Used, IsPrefix, MakesAt}
use Rattle.rmt_model.specs.Content.{content}
use Rattle.rmt_model.specs.Parts.{NumberedBlock, IsOf}
use Rattle.rmt_model.specs.CopiedParts.{Copied, IsCopied}
use Rattle.rmt_model.proofs.Lists.{Each-at, Each-all, rank-injective}
use Rattle.rmt_model.proofs.VersionLaws.{made-sized}
use Rattle.rmt_events.specs.Views.{Block}
use Rattle.rmt_events.specs.Clusters.{Accepted, rows_at}
use Rattle.rmt_events.proofs.Copies.{made-at, made-behind, part-behind, content-of-lineage}
use Rattle.rmt_clients.specs.Clients.{AreAccepted, AreClear}

used-get : (log : List Entry) (p : Option ℕ) (n source need : ℕ) (digest : List ℕ) → Has log (Get p n digest source need) → Used log p n
used-get [] p n source need digest h = absurd h
used-get (e ∷ log) p n source need digest (inl q) = subst (λ (x : Entry). Used (x ∷ log) p n) (sym q) (inl (refl, refl))
used-get (e ∷ log) p n source need digest (inr h) = inr (used-get log p n source need digest h)

-- an offered block of a part
pub record IsOfferedAs (Offered : Block → Type 0) (p : Option ℕ) (b : NumberedBlock) : Type 0 where
  pub offered : Offered (record { partition = p; digest = b.digest; rows = b.rows })

-- the accepted rows of a Get's number are those of each offered block of its id
pub rows-offered : (Offered : Block → Type 0) → AreClear Offered → (schema : Shape) (log : List Entry) (blocks : List Accepted) → Lawful schema log → AreAccepted Offered log blocks → (p : Option ℕ) (n source need : ℕ) (digest : List ℕ) → Has log (Get p n digest source need) → (b : Block) → Offered b → b.partition ≡ p → b.digest ≡ digest → rows_at blocks p n ≡ b.rows
rows-offered Offered clear schema [] [] l a p n source need digest h b o q d = absurd h
rows-offered Offered clear schema [] (x ∷ blocks) l a p n source need digest h b o q d = absurd a
rows-offered Offered clear schema (Get r m f s k ∷ log) [] l a p n source need digest h b o q d = absurd a
rows-offered Offered clear schema (Get r m f s k ∷ log) (x ∷ blocks) l a p n source need digest (inl e) b o q d =
    ap (λ (y : Accepted). rows_at (y ∷ blocks) p n) a.0.accepted ∙ (ap (λ (t : Bool). cond t a.0.block.rows (rows_at blocks p n)) (same (cc) (cc))
    ∙ ap (λ (c : Block). c.rows) (clear a.0.block b a.0.offered o (a.0.partition ∙ ((cc) ∙ sym q)) (a.0.same_id ∙ ((cc) ∙ sym d))))
  where
    same : r ≡ p → m ≡ n → (nat_eq (rank r) (rank p) && nat_eq m n) ≡ true
    same e f = let g : rank r ≡ rank p = ap rank e in grind (arith, nat_tests)
rows-offered Offered clear schema (Get r m f s k ∷ log) (x ∷ blocks) l a p n source need digest (inr h) b o q d =
    ap (λ (y : Accepted). rows_at (y ∷ blocks) p n) a.0.accepted ∙ (ap (λ (t : Bool). cond t a.0.block.rows (rows_at blocks p n)) (other (used-get log p n source need digest h) (nat_eq (rank r) (rank p) && nat_eq m n) refl)
    ∙ rows-offered Offered clear schema log blocks l.0 a.1 p n source need digest h b o q d)
  where
    other : Used log p n → (t : Bool) → (nat_eq (rank r) (rank p) && nat_eq m n) ≡ t → t ≡ false
    other u false e = refl
    other u true e =
        let f : r ≡ p = rank-injective r p (grind (arith, nat_tests)) in
        let g : m ≡ n = grind (arith, nat_tests) in
        absurd (l.1.unused (subst (λ (o : Option ℕ). Used log o m) (sym f) (subst (λ j. Used log p j) (sym g) u)))
rows-offered Offered clear schema (Merge new olds count ∷ log) blocks l a p n source need digest (inl e) b o q d = absurd (cc)
rows-offered Offered clear schema (Merge new olds count ∷ log) blocks l a p n source need digest (inr h) b o q d = rows-offered Offered clear schema log blocks l.0 a p n source need digest h b o q d
rows-offered Offered clear schema (Mutate old new upto count mcount ∷ log) blocks l a p n source need digest (inl e) b o q d = absurd (cc)
rows-offered Offered clear schema (Mutate old new upto count mcount ∷ log) blocks l a p n source need digest (inr h) b o q d = rows-offered Offered clear schema log blocks l.0 a p n source need digest h b o q d
rows-offered Offered clear schema (Mutation id numbers command ∷ log) blocks l a p n source need digest (inl e) b o q d = absurd (cc)
rows-offered Offered clear schema (Mutation id numbers command ∷ log) blocks l a p n source need digest (inr h) b o q d = rows-offered Offered clear schema log blocks l.0 a p n source need digest h b o q d
rows-offered Offered clear schema (DropRange r m ∷ log) blocks l a p n source need digest (inl e) b o q d = absurd (cc)
rows-offered Offered clear schema (DropRange r m ∷ log) blocks l a p n source need digest (inr h) b o q d = rows-offered Offered clear schema log blocks l.0 a p n source need digest h b o q d

-- a part of a copy, whose blocks are offered ones, holds the content of its name in the client's log
pub part-content : (Offered : Block → Type 0) → AreClear Offered → (schema : Shape) (copy log : List Entry) (blocks : List Accepted) → Lawful schema log → IsPrefix copy log → AreAccepted Offered log blocks → (part : Copied) → MakesAt copy part.place part.name → IsCopied schema copy part → Each (IsOfferedAs Offered part.name.partition) part.lineage → part.rows ≡ content schema log (rows_at blocks) part.name
part-content Offered clear schema copy log blocks l f a part m i offered =
    here.holds ∙ content-of-lineage schema log (rows_at blocks) part.name part.lineage here.lineage theirs (made-sized schema log part.name l there)
  where
    first : Has (made copy) part.name
    first = made-at copy part.place part.name m

    there : Has (made log) part.name
    there = subst (λ (z : List Entry). Has (made z) part.name) (sym f.is) (made-behind f.gained copy part.name first)

    here : IsCopied schema log part
    here = subst (λ (z : List Entry). IsCopied schema z part) (sym f.is) (part-behind schema f.gained copy part (subst (Lawful schema) f.is l) first i)

    theirs : Each (λ b. rows_at blocks part.name.partition b.number ≡ b.rows) part.lineage
    theirs = Each-all (λ b. rows_at blocks part.name.partition b.number ≡ b.rows) part.lineage (λ b h. one b (Each-at (λ x. Spans part.name part.name.partition x.number × IsOf log part.name.partition x) part.lineage b here.lineage.within h).1 (Each-at (IsOfferedAs Offered part.name.partition) part.lineage b offered h))
      where
        one : (b : NumberedBlock) → IsOf log part.name.partition b → IsOfferedAs Offered part.name.partition b → rows_at blocks part.name.partition b.number ≡ b.rows
        one b g o = rows-offered Offered clear schema log blocks l a part.name.partition b.number g.source g.need b.digest g.entry (record { partition = part.name.partition; digest = b.digest; rows = b.rows }) o.offered refl refl

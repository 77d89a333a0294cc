-- Blocks that a client inserts one after the other.
use Rattle.std.proofs.Common.{◌≡◌, ◌∙◌, ℕ, Bool, true, List, [], ◌∷◌, ◌++◌, map, refl, sym, ap, subst, append_assoc, append-nil}
use Rattle.std.proofs.lemmas.List.{map-append}
use Rattle.std.proofs.lemmas.List.Elements.{All-rest}
use Rattle.std.specs.List.{All}
use Rattle.std.specs.declared.option.Option.TheVariants.{Some, None}
use Rattle.std.specs.declared.result.Result.{Result}
use Rattle.std.specs.declared.result.Result.TheVariants.{Ok, Err}
use Rattle.rmt_block.specs.Blocks.{BlockView}
use Rattle.rmt_events.specs.Views.{Block}
use Rattle.rmt_events.specs.Clusters.{without_kinds}
use Rattle.rmt_reply.specs.declared.piece.Piece.{Piece}
use Rattle.rmt_reply.specs.declared.refusal.Refusal.{Refusal}
use Rattle.rmt_statement_model.specs.Inserts.{Asked, Inserts, InsertsAll, Refuses}
use Rattle.rmt_statement_model.proofs.InsertRows.{inserts-more, inserts-stop}
use Rattle.rmt_shared.specs.SharedTables.{NamedTable}
use Rattle.rmt_shared.specs.ReplicaSupplies.{IsBlockOfNamed}
use Rattle.rmt_pass.specs.Passes.{PassView, KeepsPass, TakesStep, client_at, up_in}
use Rattle.rmt_pass.proofs.OwnLemmas.{keeps-itself}
use Rattle.rmt_workers.specs.CrewInserts.{InsertsOr}
use Rattle.rmt_workers.proofs.StepLemmas.{keeps-both, keeps-up}
use Rattle.rmt_threaded.specs.ThreadedTables.{ComesTo}

-- so many blocks went in, one after the other
pub record SoFar (Offered : ℕ → Block → Type 0) (named : NamedTable) (k : ℕ) (a : Asked) (old now : PassView) (all done rest : List BlockView) (pieces : List Piece) : Type 0 where
  pub split : done ++ rest ≡ all
  pub of : All (IsBlockOfNamed named (Offered k)) rest
  pub keeps : KeepsPass old k now
  pub inserts : ComesTo (Offered k) (client_at old k) (λ t u. InsertsAll true (up_in old.up) t a (map without_kinds done) pieces None u) (client_at now k)

pub so-far-none : (Offered : ℕ → Block → Type 0) (named : NamedTable) (k : ℕ) (a : Asked) (old : PassView) (all rest : List BlockView) → rest ≡ all → All (IsBlockOfNamed named (Offered k)) all → SoFar Offered named k a old old all [] rest []
so-far-none Offered named k a old all rest e f = record {
  split = e;
  of = subst (All (IsBlockOfNamed named (Offered k))) (sym e) f;
  keeps = keeps-itself old k;
  inserts = λ clear t fits. record { after = t; change = refl; fits = fits };
}

-- one block more
so-far-next : (Offered : ℕ → Block → Type 0) (named : NamedTable) (k : ℕ) (a : Asked) (old now new : PassView) (all done rest left : List BlockView) (b : BlockView) (pieces : List Piece) (piece : Piece) → SoFar Offered named k a old now all done rest pieces → rest ≡ b ∷ left
    → TakesStep Offered now k (InsertsOr (up_in now.up) a (without_kinds b) (Ok piece)) new → SoFar Offered named k a old new all (done ++ b ∷ []) left (pieces ++ piece ∷ [])
so-far-next Offered named k a old now new all done rest left b pieces piece x e step = record {
  split = append_assoc done (b ∷ []) left ∙ (ap (λ (bs : List BlockView). done ++ bs) (sym e) ∙ x.split);
  of = All-rest (IsBlockOfNamed named (Offered k)) b left rest e x.of;
  keeps = keeps-both old now new k x.keeps step.keeps;
  inserts = λ clear t fits.
      let m = x.inserts clear t fits in
      let z = step.steps clear m.after m.fits in
      record {
        after = z.comes.after;
        change = subst (λ (bs : List Block). InsertsAll true (up_in old.up) t a bs (pieces ++ piece ∷ []) None z.comes.after) (sym (map-append without_kinds done (b ∷ [])))
            (inserts-more true (up_in old.up) t m.after z.comes.after a (map without_kinds done) (without_kinds b) pieces piece m.change
            (record { at = z.at; rests = z.rests; inserts = subst (λ (up : List Bool). Inserts true (up_in up) z.at a (without_kinds b) piece z.comes.after) (keeps-up old k now x.keeps) z.comes.change }));
        fits = z.comes.fits;
      };
}

-- the block at which it ends
so-far-last : (Offered : ℕ → Block → Type 0) (named : NamedTable) (k : ℕ) (a : Asked) (old now new : PassView) (all done rest left : List BlockView) (b : BlockView) (pieces : List Piece) (why : Refusal) → SoFar Offered named k a old now all done rest pieces → rest ≡ b ∷ left
    → TakesStep Offered now k (InsertsOr (up_in now.up) a (without_kinds b) (Err why)) new → ComesTo (Offered k) (client_at old k) (λ t u. InsertsAll true (up_in old.up) t a (map without_kinds all) pieces (Some why) u) (client_at new k)
so-far-last Offered named k a old now new all done rest left b pieces why x e step clear t fits =
    let m = x.inserts clear t fits in
    let z = step.steps clear m.after m.fits in
    record {
      after = z.comes.after;
      change = subst (λ (bs : List Block). InsertsAll true (up_in old.up) t a bs pieces (Some why) z.comes.after) (sym (map-append without_kinds done (b ∷ left)) ∙ (ap (λ (bs : List BlockView). map without_kinds (done ++ bs)) (sym e) ∙ ap (map without_kinds) x.split))
          (inserts-stop true (up_in old.up) t m.after z.comes.after a (map without_kinds done) (map without_kinds left) (without_kinds b) pieces why m.change
          (record { at = z.at; rests = z.rests; refuses = subst (λ (up : List Bool). Refuses true (up_in up) z.at a (without_kinds b) why z.comes.after) (keeps-up old k now x.keeps) z.comes.change }));
      fits = z.comes.fits;
    }

-- no block is left
pub so-far-end : (Offered : ℕ → Block → Type 0) (named : NamedTable) (k : ℕ) (a : Asked) (old now : PassView) (all done rest : List BlockView) (pieces : List Piece) → SoFar Offered named k a old now all done rest pieces → rest ≡ []
    → ComesTo (Offered k) (client_at old k) (λ t u. InsertsAll true (up_in old.up) t a (map without_kinds all) pieces None u) (client_at now k)
so-far-end Offered named k a old now all done rest pieces x e clear t fits =
    let m = x.inserts clear t fits in
    record {
      after = m.after;
      change = subst (λ (bs : List BlockView). InsertsAll true (up_in old.up) t a (map without_kinds bs) pieces None m.after) (sym (append-nil done) ∙ (ap (λ (bs : List BlockView). done ++ bs) (sym e) ∙ x.split)) m.change;
      fits = m.fits;
    }

-- ---- the call that inserts a block

-- what the call did with the block that it was handed, and answered
made-of : (Offered : ℕ → Block → Type 0) (k : ℕ) (a : Asked) (now new : PassView) (handed b : BlockView) (done is : Result Piece Refusal) → handed ≡ b → done ≡ is → TakesStep Offered now k (InsertsOr (up_in now.up) a (without_kinds handed) done) new → TakesStep Offered now k (InsertsOr (up_in now.up) a (without_kinds b) is) new
made-of Offered k a now new handed b done is e f step =
    subst (λ (x : BlockView). TakesStep Offered now k (InsertsOr (up_in now.up) a (without_kinds x) is) new) e
    (subst (λ (x : Result Piece Refusal). TakesStep Offered now k (InsertsOr (up_in now.up) a (without_kinds handed) x) new) f step)

pub so-far-more : (Offered : ℕ → Block → Type 0) (named : NamedTable) (k : ℕ) (a : Asked) (old now new : PassView) (all done rest left : List BlockView) (handed b : BlockView) (pieces pushed : List Piece) (piece : Piece) (answer : Result Piece Refusal) → SoFar Offered named k a old now all done rest pieces → rest ≡ b ∷ left
    → handed ≡ b → answer ≡ Ok piece → pushed ≡ pieces ++ piece ∷ [] → TakesStep Offered now k (InsertsOr (up_in now.up) a (without_kinds handed) answer) new → SoFar Offered named k a old new all (done ++ b ∷ []) left pushed
so-far-more Offered named k a old now new all done rest left handed b pieces pushed piece answer x e h f p step =
    subst (λ (ps : List Piece). SoFar Offered named k a old new all (done ++ b ∷ []) left ps) (sym p)
    (so-far-next Offered named k a old now new all done rest left b pieces piece x e (made-of Offered k a now new handed b answer (Ok piece) h f step))

pub so-far-stop : (Offered : ℕ → Block → Type 0) (named : NamedTable) (k : ℕ) (a : Asked) (old now new : PassView) (all done rest left : List BlockView) (handed b : BlockView) (pieces given : List Piece) (why : Refusal) (answer : Result Piece Refusal) → SoFar Offered named k a old now all done rest pieces → rest ≡ b ∷ left
    → handed ≡ b → answer ≡ Err why → given ≡ pieces → TakesStep Offered now k (InsertsOr (up_in now.up) a (without_kinds handed) answer) new
    → ComesTo (Offered k) (client_at old k) (λ t u. InsertsAll true (up_in old.up) t a (map without_kinds all) given (Some why) u) (client_at new k)
so-far-stop Offered named k a old now new all done rest left handed b pieces given why answer x e h f p step =
    subst (λ (ps : List Piece). ComesTo (Offered k) (client_at old k) (λ t u. InsertsAll true (up_in old.up) t a (map without_kinds all) ps (Some why) u) (client_at new k)) (sym p)
    (so-far-last Offered named k a old now new all done rest left b pieces why x e (made-of Offered k a now new handed b answer (Err why) h f step))

use Rattle.std.proofs.Common.{◌≡◌, ◌∙◌, ℕ, ◌<◌, ◌^◌, List, sym, subst}
use Rattle.std.specs.Prelude.{All}
use Rattle.std.proofs.lemmas.List.Elements.{All-same}
use Rattle.packet.specs.Spelling.{Spells, values_of}
use Rattle.packet.specs.Flits.{flits_of}
use Rattle.packet.proofs.Spelled.{Spells-flits_of, spelling_only}
use Rattle.packet.proofs.spelling.flits.Goals as goal

pub returns : goal.returns
unfolding flits_of
returns c =
    let p = c.args.packet.now in
    let told : c.deref.result.now ≡ values_of p = c.deref.ensures.0 ∙ c.values_of.ensures in
    let values : All (λ v. v < 2 ^ 64) (values_of p) = All-same (λ v. v < 2 ^ 64) _ _ (sym told) c.flits_for.ensures.words in
    let list : c.flits_for.result.items ≡ flits_of p = cc (c.flits_for.ensures.flits, told, c.head_flit_of.ensures.bits) in
    record {
      spells = subst (λ (xs : List ℕ). Spells p xs) (sym list)
          (Spells-flits_of p c.requires (record { place = c.head_flit_of.ensures.place; values = values }));
      alone = λ other s. spelling_only p other s ∙ sym list;
      list = list;
    }

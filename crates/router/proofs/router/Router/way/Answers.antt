use Rattle.std.proofs.Common.{◌≡◌, ◌<◌, ap, ◌∙◌, subst, arith}
use Rattle.std.proofs.lemmas.List.{get_or_read}
use Rattle.torus.specs.Shape.{tiles_of, dims_of}
use Rattle.torus.specs.declared.shape.Class.TheVariants.{Request}
use Rattle.dateline_route.specs.declared.channel.Input.TheVariants.{Inject}
use Rattle.dateline_route.specs.Next.{next_of}
use Rattle.channel_number.specs.Ports.{output_number}
use Rattle.router.specs.Table.{RouterPlace, way_of}
use Rattle.router.specs.Ways.{output_numbered}
use Rattle.router.proofs.Ways.{way_told, way_numbered}
use Rattle.router.proofs.router.Router.way.Goals as goal

pub returns-clause-value : goal.returns-clause-value
returns-clause-value g c =
    let s = c.self.inside in
    let torus : s.torus ≡ c.args.self.now.torus = ap (λ (p : RouterPlace). p.torus) c.self.view_is in
    let low : c.args.head.destination < tiles_of s.torus = rw torus c.requires in
    let held : c.from-injected.result ≡ output_number (dims_of s.torus) Request (next_of s.torus s.tile Inject c.args.head.destination) =
    c.from-injected.ensures ∙ get_or_read s.ways.items _ _ (omega (arith, low, c.self.invariant.ways)) c.index.ensures 0
    ∙ c.self.invariant.ways_are_next _ low in
    let way : c.output_numbered.result ≡ next_of s.torus s.tile Inject c.args.head.destination =
    c.output_numbered.ensures ∙ ap (λ n. output_numbered n c.from-injected.result) c.dims-dims.ensures.value
    ∙ way_numbered s.torus s.tile c.args.head.destination c.from-injected.result held in
    subst (λ (p : RouterPlace). c.output_number.result ≡ way_of p.torus p.tile c.args.input c.args.head) c.self.view_is
    (way_told s.torus s.tile c.args.input c.args.head _ _ _ way c.onward-output.ensures
    (c.output_number.ensures.value ∙ ap (λ n. output_number n c.args.head.class c.onward-output.result) c.dims-dims.ensures.value))

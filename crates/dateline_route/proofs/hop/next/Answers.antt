use Rattle.std.proofs.Common.{◌≡◌, ◌≢◌, ℕ, ◌+◌, ◌/◌, ◌%◌, ◌<◌, take, sym, ◌∙◌, ap, arith}
use Rattle.torus.specs.Shape.{digit_of, dims_of, product, radix_of}
use Rattle.dateline_route.specs.Next.{hop_to}
use Rattle.dateline_route.specs.Ring.{shorter_way}
use Rattle.dateline_route.proofs.First.{next_hops, next_ejects}
use Rattle.dateline_route.proofs.Stepped.{divided_more, same_further}
use Rattle.dateline_route.proofs.hop.next.Goals as goal

pub returns-then-from-to : goal.returns-then-from-to
returns-then-from-to c =
    let s = c.args.torus.now in
    let d : ℕ = c.loop-dim.dim in
    let low : d < dims_of s = omega arith in
    let radix : c.radix_of-radix.result ≡ radix_of s d = c.radix_of-radix.ensures.value in
    let from : c.loop-dim.here % c.radix_of-radix.result ≡ digit_of s c.args.at d =
    ap (λ n. n % c.radix_of-radix.result) c.loop-dim.invariant.0 ∙ ap (λ k. (c.args.at / product (take d s.radices)) % k) radix in
    let to : c.loop-dim.there % c.radix_of-radix.result ≡ digit_of s c.args.dst d =
    ap (λ n. n % c.radix_of-radix.result) c.loop-dim.invariant.1 ∙ ap (λ k. (c.args.dst / product (take d s.radices)) % k) radix in
    let differ : digit_of s c.args.at d ≢ digit_of s c.args.dst d = λ same. c.if-from-to.true (from ∙ same ∙ sym to) in
    let way : c.shorter_way.result ≡ shorter_way (radix_of s d) (digit_of s c.args.at d) (digit_of s c.args.dst d) =
    c.shorter_way.ensures ∙ ap (λ k. shorter_way k (c.loop-dim.here % c.radix_of-radix.result) (c.loop-dim.there % c.radix_of-radix.result)) radix
    ∙ ap (λ x. shorter_way (radix_of s d) x (c.loop-dim.there % c.radix_of-radix.result)) from
    ∙ ap (λ y. shorter_way (radix_of s d) (digit_of s c.args.at d) y) to in
    c.hop_to.ensures c.args.at (sym from) ∙ ap (hop_to s c.args.at c.args.came d) way
    ∙ sym (next_hops s c.args.at c.args.came c.args.dst d low c.loop-dim.invariant.2 differ)

pub loop-dim-preserved : goal.loop-dim-preserved
loop-dim-preserved c =
    let s = c.args.torus.now in
    let d : ℕ = c.loop-dim.dim in
    let low : d < dims_of s = omega arith in
    let radix : c.radix_of-radix.result ≡ radix_of s d = c.radix_of-radix.ensures.value in
    let here : c.loop-dim.here / c.radix_of-radix.result ≡ c.args.at / product (take (d + 1) s.radices) =
    ap (λ n. n / c.radix_of-radix.result) c.loop-dim.invariant.0 ∙ ap (λ k. (c.args.at / product (take d s.radices)) / k) radix
    ∙ divided_more s.radices c.args.at d low in
    let there : c.loop-dim.there / c.radix_of-radix.result ≡ c.args.dst / product (take (d + 1) s.radices) =
    ap (λ n. n / c.radix_of-radix.result) c.loop-dim.invariant.1 ∙ ap (λ k. (c.args.dst / product (take d s.radices)) / k) radix
    ∙ divided_more s.radices c.args.dst d low in
    let from : c.loop-dim.here % c.radix_of-radix.result ≡ digit_of s c.args.at d =
    ap (λ n. n % c.radix_of-radix.result) c.loop-dim.invariant.0 ∙ ap (λ k. (c.args.at / product (take d s.radices)) % k) radix in
    let to : c.loop-dim.there % c.radix_of-radix.result ≡ digit_of s c.args.dst d =
    ap (λ n. n % c.radix_of-radix.result) c.loop-dim.invariant.1 ∙ ap (λ k. (c.args.dst / product (take d s.radices)) % k) radix in
    let same : c.loop-dim.here % c.radix_of-radix.result ≡ c.loop-dim.there % c.radix_of-radix.result = c.if-from-to.false in
    (here, there, same_further s c.args.at c.args.dst d c.loop-dim.invariant.2 (sym from ∙ same ∙ to))

pub returns : goal.returns
returns c = sym (next_ejects c.args.torus.now c.args.at c.args.came c.args.dst (λ e low. c.loop-dim.invariant.2 e (omega arith)))

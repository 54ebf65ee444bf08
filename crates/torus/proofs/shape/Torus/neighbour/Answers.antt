use Rattle.std.proofs.Common.{◌≡◌, ℕ, ◌*◌, ◌≤◌, ◌<◌, ◌/◌, ◌%◌, arith, sym, ◌∙◌, ap}
use Rattle.std.proofs.lemmas.Nat.{mul-le}
use Rattle.torus.specs.Shape.{one_hop, radix_of}
use Rattle.torus.proofs.Hops.{hop_is, digit_within}
use Rattle.torus.proofs.shape.Torus.neighbour.Goals as goal

small : (there k stride : ℕ) → there < k → k ≤ 8 → stride ≤ 64 → there * stride ≤ 512
small there k stride below few fit = mul-le there stride 8 64 (omega arith) fit

within : (t stride k here : ℕ) → here ≡ (t / stride) % k → here * stride ≤ t
within t stride k here e = rw e (digit_within t stride k)

pub overflow_mul-result-2 : goal.overflow_mul-result-2
overflow_mul-result-2 c =
    omega (
      arith,
      small c.one_hop-there.result c.radix_of-radix.result c.stride-stride.result c.one_hop-there.ensures.below (omega arith)
          c.stride-stride.ensures.small,
    )

pub overflow_add-result : goal.overflow_add-result
overflow_add-result c =
    omega (
      arith,
      small c.one_hop-there.result c.radix_of-radix.result c.stride-stride.result c.one_hop-there.ensures.below (omega arith)
          c.stride-stride.ensures.small,
    )

pub returns : goal.returns
returns c =
    hop_is c.args.self.now c.radix_of-radix.ensures.accepted c.args.t c.args.d c.args.dir c.digit-here.result c.one_hop-there.result c.stride-stride.result
    c.requires.tile c.requires.dimension c.digit-here.ensures.value
    (c.one_hop-there.ensures.value ∙ ap (λ k. one_hop c.args.dir k c.digit-here.result) c.radix_of-radix.ensures.value)
    (omega arith) c.stride-stride.ensures.value
    (within c.args.t c.stride-stride.result (radix_of c.args.self.now c.args.d) c.digit-here.result
    (c.digit-here.ensures.value ∙ ap (λ n. (c.args.t / n) % radix_of c.args.self.now c.args.d) (sym c.stride-stride.ensures.value)))

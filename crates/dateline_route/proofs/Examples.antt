-- Routes worked out by hand, against the definition.
use Rattle.std.proofs.Common.{◌≡◌, [], ◌∷◌, true, false, refl}
use Rattle.torus.specs.declared.shape.Class.TheVariants.{Request, Reply}
use Rattle.torus.specs.declared.shape.Dir.TheVariants.{Plus, Minus}
use Rattle.dateline_route.specs.declared.channel.Kind.TheVariants.{Injection, Hop, Ejection}
use Rattle.dateline_route.specs.Route.{route_of}

two_dimensions : route_of (record { radices = 4 ∷ 4 ∷ []; datelines = 3 ∷ 3 ∷ [] }) 0 10 Request ≡
    record { tile = 0; class = Request; kind = Injection } ∷ record { tile = 0; class = Request; kind = Hop 0 Plus false }
    ∷ record { tile = 1; class = Request; kind = Hop 0 Plus false } ∷ record { tile = 2; class = Request; kind = Hop 1 Plus false }
    ∷ record { tile = 6; class = Request; kind = Hop 1 Plus false } ∷ record { tile = 10; class = Request; kind = Ejection } ∷ []
two_dimensions = refl

reply_over_both_datelines : route_of (record { radices = 4 ∷ 4 ∷ []; datelines = 3 ∷ 3 ∷ [] }) 10 0 Reply ≡
    record { tile = 10; class = Reply; kind = Injection } ∷ record { tile = 10; class = Reply; kind = Hop 0 Plus false }
    ∷ record { tile = 11; class = Reply; kind = Hop 0 Plus true } ∷ record { tile = 8; class = Reply; kind = Hop 1 Plus false }
    ∷ record { tile = 12; class = Reply; kind = Hop 1 Plus true } ∷ record { tile = 0; class = Reply; kind = Ejection } ∷ []
reply_over_both_datelines = refl

plus_over_the_dateline : route_of (record { radices = 8 ∷ []; datelines = 7 ∷ [] }) 6 1 Request ≡
    record { tile = 6; class = Request; kind = Injection } ∷ record { tile = 6; class = Request; kind = Hop 0 Plus false }
    ∷ record { tile = 7; class = Request; kind = Hop 0 Plus true } ∷ record { tile = 0; class = Request; kind = Hop 0 Plus true }
    ∷ record { tile = 1; class = Request; kind = Ejection } ∷ []
plus_over_the_dateline = refl

minus_over_the_dateline : route_of (record { radices = 5 ∷ []; datelines = 4 ∷ [] }) 0 3 Request ≡
    record { tile = 0; class = Request; kind = Injection } ∷ record { tile = 0; class = Request; kind = Hop 0 Minus true }
    ∷ record { tile = 4; class = Request; kind = Hop 0 Minus true } ∷ record { tile = 3; class = Request; kind = Ejection } ∷ []
minus_over_the_dateline = refl

to_itself : route_of (record { radices = 4 ∷ []; datelines = 3 ∷ [] }) 2 2 Request ≡
    record { tile = 2; class = Request; kind = Injection } ∷ record { tile = 2; class = Request; kind = Ejection } ∷ []
to_itself = refl

stated_dateline_before : route_of (record { radices = 8 ∷ []; datelines = 2 ∷ [] }) 6 1 Request ≡
    record { tile = 6; class = Request; kind = Injection } ∷ record { tile = 6; class = Request; kind = Hop 0 Plus false }
    ∷ record { tile = 7; class = Request; kind = Hop 0 Plus false } ∷ record { tile = 0; class = Request; kind = Hop 0 Plus false }
    ∷ record { tile = 1; class = Request; kind = Ejection } ∷ []
stated_dateline_before = refl

stated_dateline_crossed : route_of (record { radices = 8 ∷ []; datelines = 2 ∷ [] }) 1 4 Request ≡
    record { tile = 1; class = Request; kind = Injection } ∷ record { tile = 1; class = Request; kind = Hop 0 Plus false }
    ∷ record { tile = 2; class = Request; kind = Hop 0 Plus true } ∷ record { tile = 3; class = Request; kind = Hop 0 Plus true }
    ∷ record { tile = 4; class = Request; kind = Ejection } ∷ []
stated_dateline_crossed = refl

mixed_radices : route_of (record { radices = 2 ∷ 4 ∷ []; datelines = 1 ∷ 3 ∷ [] }) 1 6 Request ≡
    record { tile = 1; class = Request; kind = Injection } ∷ record { tile = 1; class = Request; kind = Hop 0 Plus true }
    ∷ record { tile = 0; class = Request; kind = Hop 1 Minus true } ∷ record { tile = 6; class = Request; kind = Ejection } ∷ []
mixed_radices = refl

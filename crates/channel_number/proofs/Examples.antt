-- Numbers worked out by hand, against the definition.
use Rattle.std.proofs.Common.{◌≡◌, [], ◌∷◌, map, true, false, refl}
use Rattle.torus.specs.declared.shape.Class.TheVariants.{Request, Reply}
use Rattle.torus.specs.declared.shape.Dir.TheVariants.{Plus, Minus}
use Rattle.dateline_route.specs.declared.channel.Kind.TheVariants.{Injection, Hop, Ejection}
use Rattle.dateline_route.specs.Route.{route_of}
use Rattle.channel_number.specs.Number.{number_of}
use Rattle.channel_number.specs.Order.{channel_index, channel_at}
use Rattle.channel_number.specs.Ports.{input_channel, output_channel}

two_dimensions : map (number_of (record { radices = 4 ∷ 4 ∷ []; datelines = 3 ∷ 3 ∷ [] }))
    (route_of (record { radices = 4 ∷ 4 ∷ []; datelines = 3 ∷ 3 ∷ [] }) 0 10 Request) ≡ 0 ∷ 1 ∷ 2 ∷ 9 ∷ 10 ∷ 17 ∷ []
two_dimensions = refl

reply_over_both_datelines : map (number_of (record { radices = 4 ∷ 4 ∷ []; datelines = 3 ∷ 3 ∷ [] }))
    (route_of (record { radices = 4 ∷ 4 ∷ []; datelines = 3 ∷ 3 ∷ [] }) 10 0 Reply) ≡ 18 ∷ 21 ∷ 23 ∷ 29 ∷ 31 ∷ 35 ∷ []
reply_over_both_datelines = refl

plus_over_the_dateline : map (number_of (record { radices = 8 ∷ []; datelines = 7 ∷ [] }))
    (route_of (record { radices = 8 ∷ []; datelines = 7 ∷ [] }) 6 1 Request) ≡ 0 ∷ 7 ∷ 9 ∷ 10 ∷ 17 ∷ []
plus_over_the_dateline = refl

minus_over_the_dateline : map (number_of (record { radices = 5 ∷ []; datelines = 4 ∷ [] }))
    (route_of (record { radices = 5 ∷ []; datelines = 4 ∷ [] }) 0 3 Request) ≡ 0 ∷ 6 ∷ 7 ∷ 11 ∷ []
minus_over_the_dateline = refl

to_itself : map (number_of (record { radices = 4 ∷ []; datelines = 3 ∷ [] })) (route_of (record { radices = 4 ∷ []; datelines = 3 ∷ [] }) 2 2 Request)
    ≡ 0 ∷ 9 ∷ []
to_itself = refl

stated_dateline_before : map (number_of (record { radices = 8 ∷ []; datelines = 2 ∷ [] }))
    (route_of (record { radices = 8 ∷ []; datelines = 2 ∷ [] }) 6 1 Request) ≡ 0 ∷ 4 ∷ 5 ∷ 6 ∷ 17 ∷ []
stated_dateline_before = refl

stated_dateline_crossed : map (number_of (record { radices = 8 ∷ []; datelines = 2 ∷ [] }))
    (route_of (record { radices = 8 ∷ []; datelines = 2 ∷ [] }) 1 4 Request) ≡ 0 ∷ 7 ∷ 9 ∷ 10 ∷ 17 ∷ []
stated_dateline_crossed = refl

mixed_radices : map (number_of (record { radices = 2 ∷ 4 ∷ []; datelines = 1 ∷ 3 ∷ [] }))
    (route_of (record { radices = 2 ∷ 4 ∷ []; datelines = 1 ∷ 3 ∷ [] }) 1 6 Request) ≡ 0 ∷ 3 ∷ 9 ∷ 13 ∷ []
mixed_radices = refl

mixed_radices_reply : map (number_of (record { radices = 2 ∷ 4 ∷ []; datelines = 1 ∷ 3 ∷ [] }))
    (route_of (record { radices = 2 ∷ 4 ∷ []; datelines = 1 ∷ 3 ∷ [] }) 1 6 Reply) ≡ 14 ∷ 17 ∷ 23 ∷ 27 ∷ []
mixed_radices_reply = refl

two_tiles : map (number_of (record { radices = 2 ∷ []; datelines = 1 ∷ [] })) (route_of (record { radices = 2 ∷ []; datelines = 1 ∷ [] }) 1 0 Request)
    ≡ 0 ∷ 3 ∷ 5 ∷ []
two_tiles = refl

two_tiles_reply : map (number_of (record { radices = 2 ∷ []; datelines = 1 ∷ [] })) (route_of (record { radices = 2 ∷ []; datelines = 1 ∷ [] }) 1 0 Reply)
    ≡ 6 ∷ 9 ∷ 11 ∷ []
two_tiles_reply = refl

table_of_tile_0 : map (number_of (record { radices = 2 ∷ []; datelines = 1 ∷ [] }))
    (record { tile = 0; class = Request; kind = Hop 0 Plus false } ∷ record { tile = 0; class = Request; kind = Hop 0 Plus true }
    ∷ record { tile = 0; class = Reply; kind = Hop 0 Plus false } ∷ record { tile = 0; class = Reply; kind = Hop 0 Plus true }
    ∷ record { tile = 0; class = Request; kind = Hop 0 Minus false } ∷ record { tile = 0; class = Request; kind = Hop 0 Minus true }
    ∷ record { tile = 0; class = Reply; kind = Hop 0 Minus false } ∷ record { tile = 0; class = Reply; kind = Hop 0 Minus true }
    ∷ record { tile = 0; class = Request; kind = Injection } ∷ record { tile = 0; class = Reply; kind = Injection }
    ∷ record { tile = 0; class = Request; kind = Ejection } ∷ record { tile = 0; class = Reply; kind = Ejection } ∷ [])
    ≡ 1 ∷ 4 ∷ 7 ∷ 10 ∷ 2 ∷ 3 ∷ 8 ∷ 9 ∷ 0 ∷ 6 ∷ 5 ∷ 11 ∷ []
table_of_tile_0 = refl

order_of_tile_0 : map (channel_index (record { radices = 2 ∷ []; datelines = 1 ∷ [] }))
    (record { tile = 0; class = Request; kind = Hop 0 Plus false } ∷ record { tile = 0; class = Request; kind = Hop 0 Plus true }
    ∷ record { tile = 0; class = Reply; kind = Hop 0 Plus false } ∷ record { tile = 0; class = Reply; kind = Hop 0 Plus true }
    ∷ record { tile = 0; class = Request; kind = Hop 0 Minus false } ∷ record { tile = 0; class = Request; kind = Hop 0 Minus true }
    ∷ record { tile = 0; class = Reply; kind = Hop 0 Minus false } ∷ record { tile = 0; class = Reply; kind = Hop 0 Minus true }
    ∷ record { tile = 0; class = Request; kind = Injection } ∷ record { tile = 0; class = Reply; kind = Injection }
    ∷ record { tile = 0; class = Request; kind = Ejection } ∷ record { tile = 0; class = Reply; kind = Ejection } ∷ [])
    ≡ 0 ∷ 1 ∷ 2 ∷ 3 ∷ 4 ∷ 5 ∷ 6 ∷ 7 ∷ 8 ∷ 9 ∷ 10 ∷ 11 ∷ []
order_of_tile_0 = refl

table_of_tile_1 : map (number_of (record { radices = 2 ∷ []; datelines = 1 ∷ [] }))
    (record { tile = 1; class = Request; kind = Hop 0 Plus false } ∷ record { tile = 1; class = Request; kind = Hop 0 Plus true }
    ∷ record { tile = 1; class = Reply; kind = Hop 0 Plus false } ∷ record { tile = 1; class = Reply; kind = Hop 0 Plus true }
    ∷ record { tile = 1; class = Request; kind = Hop 0 Minus false } ∷ record { tile = 1; class = Request; kind = Hop 0 Minus true }
    ∷ record { tile = 1; class = Reply; kind = Hop 0 Minus false } ∷ record { tile = 1; class = Reply; kind = Hop 0 Minus true }
    ∷ record { tile = 1; class = Request; kind = Injection } ∷ record { tile = 1; class = Reply; kind = Injection }
    ∷ record { tile = 1; class = Request; kind = Ejection } ∷ record { tile = 1; class = Reply; kind = Ejection } ∷ [])
    ≡ 2 ∷ 3 ∷ 8 ∷ 9 ∷ 1 ∷ 4 ∷ 7 ∷ 10 ∷ 0 ∷ 6 ∷ 5 ∷ 11 ∷ []
table_of_tile_1 = refl

order_of_tile_1 : map (channel_index (record { radices = 2 ∷ []; datelines = 1 ∷ [] }))
    (record { tile = 1; class = Request; kind = Hop 0 Plus false } ∷ record { tile = 1; class = Request; kind = Hop 0 Plus true }
    ∷ record { tile = 1; class = Reply; kind = Hop 0 Plus false } ∷ record { tile = 1; class = Reply; kind = Hop 0 Plus true }
    ∷ record { tile = 1; class = Request; kind = Hop 0 Minus false } ∷ record { tile = 1; class = Request; kind = Hop 0 Minus true }
    ∷ record { tile = 1; class = Reply; kind = Hop 0 Minus false } ∷ record { tile = 1; class = Reply; kind = Hop 0 Minus true }
    ∷ record { tile = 1; class = Request; kind = Injection } ∷ record { tile = 1; class = Reply; kind = Injection }
    ∷ record { tile = 1; class = Request; kind = Ejection } ∷ record { tile = 1; class = Reply; kind = Ejection } ∷ [])
    ≡ 12 ∷ 13 ∷ 14 ∷ 15 ∷ 16 ∷ 17 ∷ 18 ∷ 19 ∷ 20 ∷ 21 ∷ 22 ∷ 23 ∷ []
order_of_tile_1 = refl

inputs_of_tile_0 : map (input_channel (record { radices = 2 ∷ []; datelines = 1 ∷ [] }) 0) (0 ∷ 1 ∷ 2 ∷ 3 ∷ 4 ∷ 5 ∷ 6 ∷ 7 ∷ 8 ∷ 9 ∷ [])
    ≡ 12 ∷ 13 ∷ 14 ∷ 15 ∷ 16 ∷ 17 ∷ 18 ∷ 19 ∷ 8 ∷ 9 ∷ []
inputs_of_tile_0 = refl

outputs_of_tile_0 : map (output_channel (record { radices = 2 ∷ []; datelines = 1 ∷ [] }) 0) (0 ∷ 1 ∷ 2 ∷ 3 ∷ 4 ∷ 5 ∷ 6 ∷ 7 ∷ 8 ∷ 9 ∷ [])
    ≡ 0 ∷ 1 ∷ 2 ∷ 3 ∷ 4 ∷ 5 ∷ 6 ∷ 7 ∷ 10 ∷ 11 ∷ []
outputs_of_tile_0 = refl

-- on a ring of four tiles the plus hops arrive at tile 1 from tile 0, the minus hops from tile 2
inputs_on_a_ring : map (input_channel (record { radices = 4 ∷ []; datelines = 3 ∷ [] }) 1) (0 ∷ 1 ∷ 2 ∷ 3 ∷ 4 ∷ 5 ∷ 6 ∷ 7 ∷ 8 ∷ 9 ∷ [])
    ≡ 0 ∷ 1 ∷ 2 ∷ 3 ∷ 28 ∷ 29 ∷ 30 ∷ 31 ∷ 20 ∷ 21 ∷ []
inputs_on_a_ring = refl

channel_of_place_31 : channel_at (record { radices = 4 ∷ []; datelines = 3 ∷ [] }) 31 ≡ record { tile = 2; class = Reply; kind = Hop 0 Minus true }
channel_of_place_31 = refl

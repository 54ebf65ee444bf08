-- Which shape is made of given numbers, or which fault is given.
use Rattle.std.specs.Prelude.{ℕ, ◌-◌, ◌==◌, ◌&&◌, Bool, not, nat_le, nat_lt, List, length, replicate, Result, Ok, Err}
use Rattle.std.specs.Prelude.{if◌then◌else◌}
use Rattle.std.specs.List.{list_all, zip}
use Rattle.torus.specs.declared.fault.Fault.{Fault}
use Rattle.torus.specs.declared.fault.Fault.TheVariants.{Radix, Dimensions, Tiles, Count, Dateline}
use Rattle.torus.specs.Shape.{Shape, product}

-- a radix within the limits: 2 to 8
abbrev pub is_radix : ℕ → Bool
is_radix k = nat_le 2 k && nat_le k 8

-- a number of dimensions within the limits: 1 to 3
abbrev pub is_dims : ℕ → Bool
is_dims n = nat_le 1 n && nat_le n 3

-- each dateline is below the radix of its dimension
abbrev pub are_below : List ℕ → List ℕ → Bool
are_below datelines radices = list_all (λ p. nat_lt p.0 p.1) (zip datelines radices)

-- the torus of these radices and datelines, or the first fault: dimensions, radices, tiles, one
-- dateline
-- for each dimension, each below its radix
abbrev pub mixed_of : List ℕ → List ℕ → Result Shape Fault
mixed_of radices datelines =
    if not (is_dims (length radices)) then Err Dimensions
    else (if not (list_all is_radix radices) then Err Radix
    else (if not (nat_le (product radices) 64) then Err Tiles
    else (if not (length datelines == length radices) then Err Count
    else (if not (are_below datelines radices) then Err Dateline
    else Ok (record { radices = radices; datelines = datelines })))))

-- the torus of n dimensions of radix k, every dateline at the last digit, or the first fault:
-- radix, dimensions, tiles
abbrev pub uniform_of : ℕ → ℕ → Result Shape Fault
uniform_of k n =
    if not (is_radix k) then Err Radix
    else (if not (is_dims n) then Err Dimensions
    else (if not (nat_le (product (replicate n k)) 64) then Err Tiles
    else Ok (record { radices = replicate n k; datelines = replicate n (k - 1) })))

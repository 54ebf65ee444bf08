-- The record that is saved.
use Rattle.std.proofs.Common.{◌≡◌, ◌⊎◌, inl, inr, List, ℕ, [], ◌∷◌, ◌++◌, subst}
use Rattle.std.specs.Prelude.{codes, Option, Some, None, option_map, Ok}
use Rattle.hex.specs.Hex.{decode_of, encode_lower}
use Rattle.torus.specs.declared.fault.Fault.TheVariants as fault
use Rattle.machine_record.specs.Bytes.{record_bytes}
use Rattle.machine_record.specs.Calls.{IsRestored}
use Rattle.machine_record.specs.Machine.{Recorded}
use Rattle.machine_record.specs.Recording.{Recording}
use Rattle.command_live.specs.declared.told.Told.TheVariants as reply
use Rattle.command_live.specs.declared.said.Said.{Said}
use Rattle.command_live.specs.declared.said.Said.TheVariants.{Told}
use Rattle.command_live.specs.Records.{IsTheText, TellsKept}

-- its line is told, and its digits load the machine
pub tells_kept : {A : Type 0} (v : Recorded) (said : Said A) (bytes : List ℕ) (kept : Option Recording) → Some bytes ≡ option_map record_bytes kept
    → decode_of (encode_lower bytes) ≡ Ok bytes → IsRestored bytes v
    → IsTheText (codes "saved " ++ encode_lower bytes ++ 10 ∷ []) said ⊎ (said ≡ Told (reply.Refused fault.Memory))
    → TellsKept v kept said ⊎ (said ≡ Told (reply.Refused fault.Memory))
tells_kept v said bytes None is back made told = absurd (cc)
tells_kept v said bytes (Some r) is back made (inr refused) = inr refused
tells_kept v said bytes (Some r) is back made (inl line) =
    let same : bytes ≡ record_bytes r = cc in
    inl (record {
      line = subst (λ (bs : List ℕ). IsTheText (codes "saved " ++ encode_lower bs ++ 10 ∷ []) said) same line;
      back = record {
        bytes = record_bytes r;
        spelled = subst (λ (bs : List ℕ). decode_of (encode_lower bs) ≡ Ok bs) same back;
        makes = subst (λ (bs : List ℕ). IsRestored bs v) same made;
      };
    })

-- there is none
pub tells_none : {A : Type 0} (v : Recorded) (said : Said A) (kept : Option Recording) → None ≡ option_map record_bytes kept
    → said ≡ Told reply.NoRecord → TellsKept v kept said
tells_none v said None is told = told
tells_none v said (Some r) is told = absurd (cc)

-- What holds of a flight before any step.
use Rattle.std.proofs.Common.{◌≡◌, ⊎_elim, ℕ, zero, suc, ◌+◌, ◌<◌, ◌≤◌, List, [], ◌∷◌, map, length, replicate, Option, Some, None}
use Rattle.std.proofs.Common.{refl, sym, ◌∙◌, ap, arith, slice_get, slice_index_or}
use Rattle.std.proofs.lemmas.Bool.{cases_lt}
use Rattle.std.proofs.lemmas.List.{length-replicate, get_or-replicate, get_or_past}
use Rattle.std.proofs.lemmas.Option.{slice_get_within, same_Some, get_or_from_slice_get}
use Rattle.torus.specs.declared.step.OpId.{OpId}
use Rattle.packet.specs.declared.kinds.Operation.{Operation}
use Rattle.script_lines.specs.declared.line.Line.{Line}
use Rattle.home_bank.specs.declared.entry.Entry.{Entry}
use Rattle.one_order.specs.Following.{first_of}
use Rattle.one_order.specs.declared.answer.Answer.{Answer}
use Rattle.one_order.specs.Observed.{Observed, list_at}
use Rattle.one_order.specs.Events.{nothing_yet}
use Rattle.one_order.proofs.Lists.{list_at_none, total_none}
use Rattle.one_order.proofs.AccountKept.{account_none}
use Rattle.one_order.specs.ProcessorRecord.{ProcessorRecord, no_processor}
use Rattle.one_order.specs.Flight.{show}
use Rattle.one_order.specs.ProcessorRecord.{first_record}
use Rattle.one_order.specs.Courses.{first_flight}
use Rattle.one_order.proofs.Counts.{home_total_none}
use Rattle.one_order.proofs.Transport.{Holds, sound_none}
use Rattle.one_order.proofs.Parts.{tags_of, same_shown}
use Rattle.one_order.proofs.Telling.{telling_none}
use Rattle.one_order.proofs.Whole.{Whole}

-- a part of the first records that is the same of all
part_first : {A : Type 0} (f : ProcessorRecord → A) (x : A) (tags : ℕ) → ((lines : List Line) → f (first_record tags lines) ≡ x)
    → (scripts : List (List Line)) (n : ℕ) → length scripts ≡ n → map f (map (first_record tags) scripts) ≡ replicate n x
part_first f x tags e [] zero h = refl
part_first f x tags e [] (suc n) h = absurd (omega arith)
part_first f x tags e (lines ∷ scripts) zero h = absurd (omega arith)
part_first f x tags e (lines ∷ scripts) (suc n) h =
    ap (λ y. y ∷ map f (map (first_record tags) scripts)) (e lines) ∙ ap (λ xs. x ∷ xs) (part_first f x tags e scripts n (omega arith))

none_held : (n m p k i : ℕ) → Holds (replicate n (replicate m None)) p k i → ⊥
none_held n m p k i h = ⊎_elim
    (λ (in_p : p < n).
    let e : slice_get (replicate m None) k ≡ Some (Some (record { 0 = i })) =
    sym (ap (λ xs. slice_get xs k) (get_or-replicate n p (replicate m None) [] in_p)) ∙ h in
    let within = slice_get_within (replicate m None) k (Some (record { 0 = i })) e in
    let len = length-replicate {A = Option OpId} m None in
    let below : k < m = omega (arith, within, len) in
    let f : ◌≡◌ {A = Option OpId} None (Some (record { 0 = i })) =
    sym (get_or-replicate m k None None below) ∙ get_or_from_slice_get (replicate m None) k (Some (record { 0 = i })) None e in
    cc)
    (λ (past : n ≤ p).
    let len = length-replicate n (replicate {A = Option OpId} m None) in
    let e : ◌≡◌ {A = Option (Option OpId)} None (Some (Some (record { 0 = i }))) =
    sym (ap (λ xs. slice_get xs k) (get_or_past (replicate n (replicate m None)) p [] (omega (arith, len)))) ∙ h in
    cc)
    (cases_lt p n)

followed_first : (tags : ℕ) (scripts : List (List Line)) (p : ℕ)
    → let b = slice_index_or (map (first_record tags) scripts) p no_processor in b.following.issued ≡ length b.issued
unfolding first_of
followed_first tags [] p = refl
followed_first tags (lines ∷ scripts) zero = refl
followed_first tags (lines ∷ scripts) (suc p) = followed_first tags scripts p

-- what the processor of a number follows
pub first_following : (tags : ℕ) (scripts : List (List Line)) (p : ℕ) (lines : List Line) → slice_get scripts p ≡ Some lines
    → (slice_index_or (map (first_record tags) scripts) p no_processor).following ≡ first_of lines
first_following tags [] p lines h = absurd (cc)
first_following tags (x ∷ scripts) zero lines h = ap first_of (same_Some x lines h)
first_following tags (x ∷ scripts) (suc p) lines h = first_following tags scripts p lines h

module _ (n tags : ℕ) (opening : List ℕ) (scripts : List (List Line)) (count : length scripts ≡ n) where
  pub first_shown : show (first_flight n tags opening scripts) ≡ nothing_yet n opening
  first_shown = same_shown _ _ _ _ _ _ _ _
      (part_first (λ (b : ProcessorRecord). b.issued) [] tags (λ lines. refl) scripts n count)
      (part_first (λ (b : ProcessorRecord). b.answers) [] tags (λ lines. refl) scripts n count)
      refl
      refl

  pub first_whole : Whole n tags opening (first_flight n tags opening scripts) []
  first_whole =
      let tagged : tags_of (first_flight n tags opening scripts) ≡ replicate n (replicate tags None) =
      part_first (λ (b : ProcessorRecord). b.tags) (replicate tags None) tags (λ lines. refl) scripts n count in
      let unissued : (p i : ℕ) (o : Operation) → slice_get (list_at (show (first_flight n tags opening scripts)).issued p) i ≡ Some o → ⊥ =
      λ p i o h.
      let e : ◌≡◌ {A = Option Operation} None (Some o) =
      sym (ap (λ (y : Observed). slice_get (list_at y.issued p) i) first_shown ∙ ap (λ xs. slice_get xs i) (list_at_none {A = Operation} n p))
      ∙ h in
      cc in
      record {
        account = rw first_shown (account_none n tags opening);
        sound = rw tagged (sound_none n opening (show (first_flight n tags opening scripts)) (replicate n (replicate tags None))
            (length-replicate n (replicate tags None)) (none_held n tags) unissued);
        tag_counts = λ p h. ap (λ ts. length (list_at ts p)) tagged
            ∙ (ap length (get_or-replicate n p (replicate tags None) [] h) ∙ length-replicate tags None);
        followed = followed_first tags scripts;
        counted = rw first_shown (record {
          asked = omega (arith, total_none Entry n, total_none Operation n);
          told = omega (arith, total_none Answer n, total_none Entry n);
          homes = λ b.
              let z : 0 + 0 ≡ 0 = omega arith in
              ap (λ (k : ℕ). 0 + k) (ap length (list_at_none {A = Entry} n b)) ∙ (z ∙ sym (home_total_none n b n));
        });
        telling = rw first_shown (telling_none (nothing_yet n opening) (λ b place e h.
            let no : None ≡ Some e = sym (ap (λ xs. slice_get xs place) (list_at_none {A = Entry} n b)) ∙ h in
            cc));
      }

-- No line has more than five words that mean something, comments apart: seven tell that there are too many.
use Rattle.std.proofs.Common.{◌≡◌, ℕ, ◌+◌, List, [], ◌∷◌, take, refl, sym, ◌∙◌, ap}
use Rattle.std.specs.Prelude.{Result, Ok, Err, Option, Some, None, ok_or, if◌then◌else◌}
use Rattle.lexer.specs.Words.{words_of, begins_comment}
use Rattle.script_lines.specs.declared.line.Line.{Line}
use Rattle.lexer.specs.declared.refusal.Refusal.{Refusal}
use Rattle.lexer.specs.Outcome.{◌>>=◌, refusal_at, then_lines}
use Rattle.script.specs.declared.reason.Keyword.{Keyword}
use Rattle.script.specs.declared.reason.Keyword.TheVariants as key
use Rattle.script.specs.declared.reason.TextReason.{TextReason}
use Rattle.script.specs.declared.reason.TextReason.TheVariants as reason
use Rattle.script.specs.Reasons.{setting_named}
use Rattle.script.specs.Settings.{few_indexes, one_index, after_radix, after_dims, after_datelines, after_depth, after_tags}
use Rattle.script_lines.specs.Machine.{MachineSpec}
use Rattle.script.specs.Machine.{Reading, after_count, after_init_values, with_settings, after_keyword, after_words, machine_from}
use Rattle.script.specs.Scripts as scripts
use Rattle.script.specs.Steps as made
use Rattle.torus.specs.declared.step.Step.{Step}
use Rattle.script_lines.specs.Lines.{ScriptsSpec}
use Rattle.script.specs.Scripts.{scripts_from}

scripts_seven : (m : ℕ) (lists : List (List Line)) (ws : List (List ℕ)) → scripts.after_words m lists (take 7 ws) ≡ scripts.after_words m lists ws
scripts_seven m lists [] = refl
scripts_seven m lists (a ∷ []) = refl
scripts_seven m lists (a ∷ b ∷ []) = refl
scripts_seven m lists (a ∷ b ∷ c ∷ []) = refl
scripts_seven m lists (a ∷ b ∷ c ∷ d ∷ []) = refl
scripts_seven m lists (a ∷ b ∷ c ∷ d ∷ e ∷ []) = refl
scripts_seven m lists (a ∷ b ∷ c ∷ d ∷ e ∷ f ∷ []) = refl
scripts_seven m lists (a ∷ b ∷ c ∷ d ∷ e ∷ f ∷ g ∷ more) = refl

pub steps_seven : (tiles dims : ℕ) (steps : List Step) (ws : List (List ℕ)) → made.after_words tiles dims steps (take 7 ws) ≡ made.after_words tiles dims steps ws
steps_seven tiles dims steps [] = refl
steps_seven tiles dims steps (a ∷ []) = refl
steps_seven tiles dims steps (a ∷ b ∷ []) = refl
steps_seven tiles dims steps (a ∷ b ∷ c ∷ []) = refl
steps_seven tiles dims steps (a ∷ b ∷ c ∷ d ∷ more) = refl

-- one more line of a script text
pub scripts_step : (m m' n : ℕ) (lists new : List (List Line)) (line : List ℕ) (rest after ws : List (List ℕ)) (all : Result ScriptsSpec (Refusal TextReason)) →
    rest ≡ line ∷ after → ws ≡ take 7 (words_of line) → m' ≡ m → scripts.after_words m' lists ws ≡ Ok new → scripts_from m lists n rest ≡ all →
    scripts_from m new (n + 1) after ≡ all
scripts_step m m' n lists new line rest after ws all is seven same made so_far =
    let here : scripts.after_words m lists (words_of line) ≡ Ok new =
    sym (scripts_seven m lists (words_of line)) ∙ ap (scripts.after_words m lists) (sym seven) ∙ ap (λ k. scripts.after_words k lists ws) (sym same) ∙ made in
    sym (ap (λ r. then_lines n r (λ next. scripts_from m next (n + 1) after)) here)
    ∙ sym (ap (scripts_from m lists n) is)
    ∙ so_far

-- a bad line of a script text
pub scripts_fault : (m m' n : ℕ) (lists : List (List Line)) (line : List ℕ) (rest after ws : List (List ℕ)) (all : Result ScriptsSpec (Refusal TextReason)) (e : TextReason) →
    rest ≡ line ∷ after → ws ≡ take 7 (words_of line) → m' ≡ m → scripts.after_words m' lists ws ≡ Err e → scripts_from m lists n rest ≡ all →
    all ≡ Err (refusal_at n e)
scripts_fault m m' n lists line rest after ws all e is seven same made so_far =
    let here : scripts.after_words m lists (words_of line) ≡ Err e =
    sym (scripts_seven m lists (words_of line)) ∙ ap (scripts.after_words m lists) (sym seven) ∙ ap (λ k. scripts.after_words k lists ws) (sym same) ∙ made in
    sym so_far
    ∙ ap (scripts_from m lists n) is
    ∙ ap (λ r. then_lines n r (λ next. scripts_from m next (n + 1) after)) here

few_six : (k : Keyword) (ws : List (List ℕ)) → few_indexes k (take 6 ws) ≡ few_indexes k ws
few_six k [] = refl
few_six k (a ∷ []) = refl
few_six k (a ∷ b ∷ []) = refl
few_six k (a ∷ b ∷ c ∷ []) = refl
few_six k (a ∷ b ∷ c ∷ d ∷ more) = refl

one_six : (k : Keyword) (ws : List (List ℕ)) → one_index k (take 6 ws) ≡ one_index k ws
one_six k [] = refl
one_six k (a ∷ []) = refl
one_six k (a ∷ b ∷ more) = refl

init_six : (r : Reading) (ws : List (List ℕ)) → after_init_values r (take 6 ws) ≡ after_init_values r ws
init_six r [] = refl
init_six r (a ∷ []) = refl
init_six r (a ∷ b ∷ []) = refl
init_six r (a ∷ b ∷ c ∷ more) = refl

keyword_six : (r : Reading) (ws : List (List ℕ)) (k : Keyword) → after_keyword r (take 6 ws) k ≡ after_keyword r ws k
keyword_six r ws key.Radix = ap (λ (f : Result (List ℕ) TextReason). f >>= after_radix r.settings >>= with_settings r) (few_six key.Radix ws)
keyword_six r ws key.Dims = ap (λ (f : Result ℕ TextReason). f >>= after_dims r.settings >>= with_settings r) (one_six key.Dims ws)
keyword_six r ws key.Dateline = ap (λ (f : Result (List ℕ) TextReason). f >>= after_datelines r.settings >>= with_settings r) (few_six key.Dateline ws)
keyword_six r ws key.Depth = ap (λ (f : Result ℕ TextReason). f >>= after_depth r.settings >>= with_settings r) (one_six key.Depth ws)
keyword_six r ws key.Tags = ap (λ (f : Result ℕ TextReason). f >>= after_tags r.settings >>= with_settings r) (one_six key.Tags ws)
keyword_six r ws key.Words = ap (λ (f : Result ℕ TextReason). f >>= after_count r) (one_six key.Words ws)
keyword_six r ws key.Init = init_six r ws

named_six : (r : Reading) (o : Option Keyword) (ws : List (List ℕ))
    → (ok_or o reason.UnknownKeyword >>= after_keyword r (take 6 ws)) ≡ (ok_or o reason.UnknownKeyword >>= after_keyword r ws)
named_six r None ws = refl
named_six r (Some k) ws = keyword_six r ws k

machine_seven : (r : Reading) (ws : List (List ℕ)) → after_words r (take 7 ws) ≡ after_words r ws
machine_seven r [] = refl
machine_seven r (w ∷ ws) =
    ap (λ (o : Result Reading TextReason). if begins_comment w then Ok r else o) (named_six r (setting_named w) ws)

-- one more line of a machine text
pub machine_step : (n : ℕ) (r new : Reading) (line : List ℕ) (rest after ws : List (List ℕ)) (all : Result MachineSpec (Refusal TextReason))
    → rest ≡ line ∷ after → ws ≡ take 7 (words_of line) → after_words r ws ≡ Ok new → machine_from r n rest ≡ all
    → machine_from new (n + 1) after ≡ all
machine_step n r new line rest after ws all is seven made so_far =
    let here : after_words r (words_of line) ≡ Ok new = sym (machine_seven r (words_of line)) ∙ ap (after_words r) (sym seven) ∙ made in
    sym (ap (λ o. then_lines n o (λ next. machine_from next (n + 1) after)) here) ∙ sym (ap (machine_from r n) is) ∙ so_far

-- a bad line of a machine text
pub machine_fault : (n : ℕ) (r : Reading) (line : List ℕ) (rest after ws : List (List ℕ)) (all : Result MachineSpec (Refusal TextReason)) (e : TextReason)
    → rest ≡ line ∷ after → ws ≡ take 7 (words_of line) → after_words r ws ≡ Err e → machine_from r n rest ≡ all
    → all ≡ Err (refusal_at n e)
machine_fault n r line rest after ws all e is seven made so_far =
    let here : after_words r (words_of line) ≡ Err e = sym (machine_seven r (words_of line)) ∙ ap (after_words r) (sym seven) ∙ made in
    sym so_far ∙ ap (machine_from r n) is ∙ ap (λ o. then_lines n o (λ next. machine_from next (n + 1) after)) here

-- Numbers: an assessment bears that of the latest act or take-back on its facility, in its year or an earlier one.
use Rattle.std.proofs.Common.{◌≡◌, ℕ, zero, suc, ◌+◌, ◌<◌, Bool, true, false, cond, ◌||◌, eqb, leb, List, [], ◌∷◌, ◌++◌, Some, None, sym, refl, ap, ◌∙◌, inl, inr, arith}
use Rattle.std.specs.List.{AllByRecursion}
use Rattle.std.proofs.ByRecursion.{All-append, All-weaker}
use Rattle.std.proofs.lemmas.Bool.{cases_Bool, cond-true, cond-false, or_parts, false≢true, and_cases, and_left, and_right, leb-false, ne_eqb}
use Rattle.filing.specs.Filing.{FilingFields}
use Rattle.register.specs.Calls.{Act, Event, enrols, acts, takes_back, closes}
use Rattle.register.specs.History.{standing_at, numbers, if_touched, number_of}
use Rattle.register.specs.Laws.{on_place, touches, Latest}
use Rattle.register.specs.Striking.{struck_or, open_acts, undo_log, closed_acts, unstruck}
use Rattle.register.proofs.Vacancies.{on_just, none_stands}

-- some event is on the facility, in the year or an earlier one
abbrev pub touched : List Event → ℕ → ℕ → Bool
touched [] f y = false
touched (e ∷ es) f y = touches e es f y || touched es f y

-- the number of an event that touches, and of one that does not
if_touched_is : (ds : List Act) (f y n m : ℕ) → if_touched ds f y n m ≡ cond (on_place ds f y) n m
if_touched_is [] f y n m = refl
if_touched_is (a ∷ ds) f y n m = refl

number_more : (e : Event) (es : List Event) (f y : ℕ) → number_of (e ∷ es) f y ≡ cond (touches e es f y) (numbers es + 1) (number_of es f y)
unfolding number_of
number_more (enrols e) es f y = refl
number_more (acts a) es f y = refl
number_more takes_back es f y = if_touched_is (undo_log es) f y (numbers es + 1) (number_of es f y)
number_more closes es f y = refl

-- the latest
none_newer : (after before : List Event) (d : Event) → [] ≡ after ++ (d ∷ before) → ⊥
none_newer [] before d is = grind arith
none_newer (a ∷ after) before d is = grind arith

last_more : (e : Event) (newer older : List Event) (f y : ℕ) → touches e (newer ++ older) f y ≡ false → ((after before : List Event) (d : Event) → newer ≡ after ++ (d ∷ before) → touches d (before ++ older) f y ≡ false) → (after before : List Event) (d : Event) → e ∷ newer ≡ after ++ (d ∷ before) → touches d (before ++ older) f y ≡ false
last_more e newer older f y h last [] before d is =
    let same : d ≡ e = cc in
    let rest : before ≡ newer = cc in
    ap (λ (x : Event). touches x (before ++ older) f y) same ∙ ap (λ (l : List Event). touches e (l ++ older) f y) rest ∙ h
last_more e newer older f y h last (a ∷ after) before d is = last after before d cc

latest_here : (e : Event) (es : List Event) (f y : ℕ) → touches e es f y ≡ true → Latest (e ∷ es) f y (number_of (e ∷ es) f y)
latest_here e es f y h =
    record {
      newer = [];
      event = e;
      older = es;
      are = refl;
      here = h;
      number = number_more e es f y ∙ cond-true (touches e es f y) (numbers es + 1) (number_of es f y) h;
      last = λ after before d is. absurd (none_newer after before d is);
    }

latest_more : (e : Event) (es : List Event) (f y : ℕ) → touches e es f y ≡ false → Latest es f y (number_of es f y) → Latest (e ∷ es) f y (number_of (e ∷ es) f y)
latest_more e es f y h l =
    record {
      newer = e ∷ l.newer;
      event = l.event;
      older = l.older;
      are = ap (λ (es : List Event). e ∷ es) l.are;
      here = l.here;
      number = number_more e es f y ∙ cond-false (touches e es f y) (numbers es + 1) (number_of es f y) h ∙ l.number;
      last = last_more e l.newer (l.event ∷ l.older) f y (sym (ap (λ (l : List Event). touches e l f y) l.are) ∙ h) l.last;
    }

or_rest : (p q : Bool) → p ≡ false → (p || q) ≡ true → q ≡ true
or_rest true q h t = absurd (false≢true (sym h))
or_rest false q h t = t

pub latest_of : (es : List Event) (f y : ℕ) → touched es f y ≡ true → Latest es f y (number_of es f y)
latest_of [] f y h = absurd (false≢true h)
latest_of (e ∷ es) f y h =
    elim (cases_Bool (touches e es f y)) [
      | inl here ↦ latest_here e es f y here
      | inr past ↦ latest_more e es f y past (latest_of es f y (or_rest (touches e es f y) (touched es f y) past h))
    ]

-- where nothing touches, no unstruck act is
abbrev Away : ℕ → ℕ → Act → Type 0
Away f y a = on_place (a ∷ []) f y ≡ false

struck_away : (f y n : ℕ) (a : Act) (older : ℕ → List Act) → Away f y a → ((m : ℕ) → AllByRecursion (Away f y) (older m)) → AllByRecursion (Away f y) (struck_or n a older)
struck_away f y zero a older h all = (h, all zero)
struck_away f y (suc n) a older h all = all n

open_away : (n : ℕ) (es : List Event) (f y : ℕ) → touched es f y ≡ false → AllByRecursion (Away f y) (open_acts n es)
open_away n [] f y h = tt
open_away n (enrols e ∷ es) f y h = open_away n es f y h
open_away n (acts a ∷ es) f y h =
    let p = or_parts (on_place (a ∷ []) f y) (touched es f y) h in
    struck_away f y n a (λ m. open_acts m es) p.0 (λ m. open_away m es f y p.1)
open_away n (takes_back ∷ es) f y h = open_away (suc n) es f y (or_parts (on_place (undo_log es) f y) (touched es f y) h).1
open_away n (closes ∷ es) f y h = tt

closed_away : (es : List Event) (f y : ℕ) → touched es f y ≡ false → AllByRecursion (Away f y) (closed_acts es)
closed_away [] f y h = tt
closed_away (enrols e ∷ es) f y h = closed_away es f y h
closed_away (acts a ∷ es) f y h = closed_away es f y (or_parts (on_place (a ∷ []) f y) (touched es f y) h).1
closed_away (takes_back ∷ es) f y h = closed_away es f y (or_parts (on_place (undo_log es) f y) (touched es f y) h).1
closed_away (closes ∷ es) f y h = All-append (Away f y) (undo_log es) (closed_acts es) (open_away 0 es f y h) (closed_away es f y h)

-- where a filing stands, some event touches
away_just : (f y : ℕ) (a : Act) → Away f y a → on_just f y a ≡ false
away_just f y a away =
    elim (and_cases (eqb a.facility f) (leb a.year y) away) [
      | inl other ↦ and_left (eqb a.facility f) (eqb a.year y) other
      | inr later ↦
          let past : y < a.year = leb-false a.year y later in
          and_right (eqb a.facility f) (eqb a.year y) (ne_eqb a.year y (λ same. omega arith))
    ]

untouched_vacant : (es : List Event) (f y : ℕ) → touched es f y ≡ false → standing_at es f y ≡ None
untouched_vacant es f y h =
    let all : AllByRecursion (Away f y) (unstruck es) = All-append (Away f y) (undo_log es) (closed_acts es) (open_away 0 es f y h) (closed_away es f y h) in
    none_stands es f y (All-weaker (Away f y) (λ a. on_just f y a ≡ false) (away_just f y) (unstruck es) all)

pub standing_touched : (es : List Event) (f y : ℕ) (x : FilingFields) → standing_at es f y ≡ Some x → touched es f y ≡ true
standing_touched es f y x stands =
    elim (cases_Bool (touched es f y)) [
      | inl is ↦ is
      | inr lacks ↦ cc (untouched_vacant es f y lacks)
    ]

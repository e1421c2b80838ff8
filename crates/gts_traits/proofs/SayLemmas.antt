-- What was said in pieces. For the proofs of crates above too.
use Rattle.gts_traits.proofs.Cited.{◌≡◌, ℕ, List, [], ◌∷◌, ◌++◌, Result, Ok, Err, inl, inr, refl, ap, ◌∙◌, append_assoc, Broken, Call, Did, EachTouchesNone, Outside, Says, SaysFront, SaysOnly, Tells, TouchesNone, Tries, WritesNothing, on, said_by, seen, common_steps, arith}
use Rattle.gts_traits.proofs.OutsideLemmas.{on-append, SaidSince-refl, SaidSince-trans, SaidSince-from_say}

each_untouched : (xs ys : List Call) → EachTouchesNone xs → EachTouchesNone ys → EachTouchesNone (xs ++ ys)
each_untouched [] ys first second = second
each_untouched (x ∷ xs) ys first second = (first.0, each_untouched xs ys first.1 second)

pub untouched_none : (calls : List Call) → WritesNothing calls calls
untouched_none calls = record { since = []; is = refl; each = tt }

pub untouched_more : (a b c : List Call) → WritesNothing a b → WritesNothing b c → WritesNothing a c
untouched_more a b c first second = grind (arith, common_steps, append_assoc, each_untouched)

-- one call that touches no file
pub untouched_call : (old new : List Call) (call : Call) → TouchesNone call → new ≡ call ∷ old → WritesNothing old new
untouched_call old new call quiet is = record { since = call ∷ []; is = is; each = (quiet, tt) }

pub untouched_same : (old new : List Call) → new ≡ old → WritesNothing old new
untouched_same old new is = record { since = []; is = is; each = tt }

pub said_none : (calls : List Call) → SaysOnly calls calls []
said_none calls = record { said = SaidSince-refl calls; files = λ file. refl; untouched = untouched_none calls }

pub said_more : (a b c : List Call) (x y : Outside) → SaysOnly a b x → SaysOnly b c y → SaysOnly a c (x ++ y)
said_more a b c x y first second = grind (arith, common_steps, SaidSince-trans, untouched_more)

pub front_behind : (a b c : List Call) (x y : Outside) → SaysOnly a b x → SaysFront b c y → SaysFront a c (x ++ y)
front_behind a b c x y first second = grind (arith, common_steps, append_assoc, said_more)

pub front_more : (a b : List Call) (x more : Outside) → SaysFront a b x → SaysFront a b (x ++ more)
front_more a b x more f = grind (arith, common_steps, append_assoc)

-- a say of bytes on a channel
pub tells_try : {T E : Type 0} (result : Result T E) (channel : ℕ) (bytes : List ℕ) (old new : List Call) → Tries (Says channel bytes) result old new
    → Tells result (on channel bytes) old new
tells_try (Ok done) channel bytes old new is = record {
  said = SaidSince-from_say channel bytes old new is;
  files = λ file. ap (λ (calls : List Call). seen calls file) is;
  untouched = untouched_call old new (Did (Says channel bytes)) tt is;
}
tells_try (Err e) channel bytes old new broke = elim broke [
  | inl same ↦ grind (arith, common_steps, on, said_by, SaidSince-refl, seen, untouched_same)
  | inr left ↦ record {
    left = on channel left.0;
    front = (on channel left.1.0, ap (on channel) left.1.1 ∙ on-append channel left.0 left.1.0);
    said = record {
      said = ap said_by left.2;
      files = λ file. ap (λ (calls : List Call). seen calls file) left.2;
      untouched = untouched_call old new (Broken (Says channel bytes) left.0) tt left.2;
    };
  }
]

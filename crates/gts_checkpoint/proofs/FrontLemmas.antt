-- A checkpoint as it is read: its first bytes, its bulletins and its circuits.
use Rattle.gts_checkpoint.proofs.Cited.{common_steps, ◌≡◌, ℕ, ◌+◌, ◌^◌, ◌<◌, ◌≤◌, List, [], ◌∷◌, ◌++◌, length, map, flat_map, Option, Some, None, IfSome, refl, sym, ap, subst, ◌∙◌, arith, append_assoc, AllByRecursion, BeginsWith, Bulletin, Call, FindsBulletins, FindsCircuits, FitBodies, FitsBulletin, FitsCircuit, FitsNeed, FitsValue, FitsValueCircuit, bulletin_of, bulletin_text, bytes_from, checkpoint_text, circuit_need_of, circuit_text, first_of, head_text, need_of, unowed, unowed_circuit, written_bulletin, written_circuit, Need, length-map, same_parts}
use Rattle.gts_event.specs.Need as needs
use Rattle.gts_event.specs.declared.values.Bulletin as values
use Rattle.gts_event.specs.declared.values.CircuitNeed as value_circuit
use Rattle.gts_checkpoint.proofs.HeadLemmas.{same_number}
use Rattle.gts_checkpoint.proofs.PieceLemmas.{behind, moved, same_bulletin, fits_value}
use Rattle.gts_checkpoint.proofs.NeedLemmas.{need_text, need_size}

-- ---- a text that stands there is that of a need

record SameFront (circuits bulletins : ℕ) (m : needs.Need) (rest more : List ℕ) : Type 0 where
  pub circuits_are : circuits ≡ length m.circuits
  pub bulletins_are : bulletins ≡ length m.bulletins
  pub behind_it : rest ≡ flat_map bulletin_text m.bulletins ++ (flat_map circuit_text m.circuits ++ more)

-- the front of a need whose checkpoint stands there
same_front : (bytes head rest : List ℕ) (circuits accepted bulletins : ℕ) (m : needs.Need) → bytes ≡ head ++ rest → head ≡ head_text circuits accepted bulletins → circuits < 2 ^ 32 → bulletins < 2 ^ 32
    → FitsNeed m → (begins : BeginsWith bytes (checkpoint_text m)) → SameFront circuits bulletins m rest begins.0
same_front bytes head rest circuits accepted bulletins m stands is low high fits begins = grind (arith, common_steps, same_number, same_parts)

-- a checkpoint begins with a front
pub no_front : (bytes head : List ℕ) (m : needs.Need) → BeginsWith bytes head → length head ≡ 20 → ((circuits accepted bulletins : ℕ) → head ≡ head_text circuits accepted bulletins → ⊥)
    → BeginsWith bytes (checkpoint_text m) → ⊥
no_front bytes head m stands long none begins =
    let h : List ℕ = head_text (length m.circuits) m.accepted (length m.bulletins) in
    let bs : List ℕ = flat_map bulletin_text m.bulletins in
    let cs : List ℕ = flat_map circuit_text m.circuits in
    let split : (h ++ bs ++ cs) ++ begins.0 ≡ h ++ (bs ++ (cs ++ begins.0)) = append_assoc (h ++ bs) cs begins.0 ∙ append_assoc h bs (cs ++ begins.0) in
    none (length m.circuits) m.accepted (length m.bulletins)
    (same_parts head h stands.0 (bs ++ (cs ++ begins.0)) long (sym stands.1 ∙ begins.1 ∙ split)).0

-- without bulletins behind the front there is none
pub no_bulletins : (calls now : List Call) (file : ℕ) (head : List ℕ) (circuits accepted bulletins : ℕ) (found : Option (List values.Bulletin × ℕ)) (m : needs.Need) → BeginsWith (bytes_from calls file 41) head
    → head ≡ head_text circuits accepted bulletins → circuits < 2 ^ 32 → bulletins < 2 ^ 32 → now ≡ calls → found ≡ None → FindsBulletins (bytes_from now file 61) bulletins (first_of found)
    → FitsNeed m → FitBodies m.bulletins → BeginsWith (bytes_from calls file 41) (checkpoint_text m) → ⊥
no_bulletins calls now file head circuits accepted bulletins found m stands is low high told none finds fits bodies begins =
    let N : List ℕ → Type 0 = λ l. (bs : List Bulletin) → length bs ≡ bulletins → FitBodies bs → BeginsWith l (flat_map bulletin_text bs) → ⊥ in
    let nothing = subst N (behind calls file 41 20 head stands.0 stands.1 (ap (λ (l : List ℕ). length l) is)) (moved (λ l o. FindsBulletins l bulletins (first_of o)) calls now file 61 61 found None told refl none finds) in
    let f = same_front (bytes_from calls file 41) head stands.0 circuits accepted bulletins m stands.1 is low high fits begins in
    nothing m.bulletins (sym f.bulletins_are) bodies (flat_map circuit_text m.circuits ++ begins.0, f.behind_it)

-- bulletins that stand at one front, as many, have one text
same_bulletins : (xs : List values.Bulletin) (ys : List Bulletin) (rest more : List ℕ) → length xs ≡ length ys → AllByRecursion FitsValue xs → FitBodies ys
    → flat_map written_bulletin xs ++ rest ≡ flat_map bulletin_text ys ++ more → rest ≡ more
same_bulletins [] [] rest more long good fit same = same
same_bulletins [] (y ∷ ys) rest more long good fit same = absurd (omega arith)
same_bulletins (x ∷ xs) [] rest more long good fit same = absurd (omega arith)
same_bulletins (x ∷ xs) (y ∷ ys) rest more long good fit same =
    let split : written_bulletin x ++ (flat_map written_bulletin xs ++ rest) ≡ bulletin_text y ++ (flat_map bulletin_text ys ++ more) =
    sym (append_assoc (written_bulletin x) (flat_map written_bulletin xs) rest) ∙ same ∙ append_assoc (bulletin_text y) (flat_map bulletin_text ys) more in
    let one : written_bulletin x ≡ bulletin_text y = same_bulletin x y (flat_map written_bulletin xs ++ rest) (flat_map bulletin_text ys ++ more) good.0 fit.0 split in
    same_bulletins xs ys rest more (omega (arith, long)) good.1 fit.1
    (same_parts (written_bulletin x) (bulletin_text y) (flat_map written_bulletin xs ++ rest) (flat_map bulletin_text ys ++ more) (ap (λ (l : List ℕ). length l) one) split).1

-- a front, and behind it as many bulletins as this, up to a place
pub record HasBulletins (calls : List Call) (file : ℕ) (head : List ℕ) (xs : List values.Bulletin) (at count : ℕ) : Type 0 where
  pub first : BeginsWith (bytes_from calls file 41) head
  pub second : BeginsWith first.0 (flat_map written_bulletin xs)
  pub behind_it : bytes_from calls file at ≡ second.0
  pub good : AllByRecursion FitsValue xs
  pub size : length xs ≡ count

pub has_bulletins : (calls now : List Call) (file count : ℕ) (head : List ℕ) (found : Option (List values.Bulletin × ℕ)) (xs : List values.Bulletin) (at : ℕ) → BeginsWith (bytes_from calls file 41) head → length head ≡ 20
    → now ≡ calls → found ≡ Some (xs, at) → FindsBulletins (bytes_from now file 61) count (first_of found) → IfSome found (λ bs. bs.1 ≡ 61 + length (flat_map written_bulletin bs.0))
    → IfSome found (λ bs. AllByRecursion FitsValue bs.0) → HasBulletins calls file head xs at count
has_bulletins calls now file count head found xs at stands long told is finds place good =
    let P : Option (List values.Bulletin × ℕ) → Type 0 = λ o. IfSome o (λ bs. bs.1 ≡ 61 + length (flat_map written_bulletin bs.0)) in
    let A : Option (List values.Bulletin × ℕ) → Type 0 = λ o. IfSome o (λ bs. AllByRecursion FitsValue bs.0) in
    let there = moved (λ l o. FindsBulletins l count (first_of o)) calls now file 61 61 found (Some (xs, at)) told refl is finds in
    let behind_head : bytes_from calls file 61 ≡ stands.0 = behind calls file 41 20 head stands.0 stands.1 long in
    let second : BeginsWith stands.0 (flat_map written_bulletin xs) = subst (λ (l : List ℕ). BeginsWith l (flat_map written_bulletin xs)) behind_head there.0 in
    record {
      first = stands;
      second = second;
      behind_it = ap (λ (k : ℕ). bytes_from calls file k) (subst P is place) ∙ behind calls file 61 (length (flat_map written_bulletin xs)) (flat_map written_bulletin xs) second.0 (behind_head ∙ second.1) refl;
      good = subst A is good;
      size = there.1;
    }

-- without circuits behind the bulletins there is none
pub no_circuits : (calls now : List Call) (file : ℕ) (head : List ℕ) (circuits accepted bulletins at : ℕ) (xs : List values.Bulletin) (found : Option (List value_circuit.CircuitNeed × ℕ)) (m : needs.Need)
    → HasBulletins calls file head xs at bulletins → head ≡ head_text circuits accepted bulletins → circuits < 2 ^ 32 → bulletins < 2 ^ 32 → now ≡ calls → found ≡ None
    → FindsCircuits (bytes_from now file at) circuits (first_of found) → FitsNeed m → FitBodies m.bulletins → BeginsWith (bytes_from calls file 41) (checkpoint_text m) → ⊥
no_circuits calls now file head circuits accepted bulletins at xs found m has is low high told none finds fits bodies begins =
    let N : List ℕ → Type 0 = λ l. (cs : List needs.CircuitNeed) → length cs ≡ circuits → AllByRecursion FitsCircuit cs → BeginsWith l (flat_map circuit_text cs) → ⊥ in
    let nothing = subst N has.behind_it (moved (λ l o. FindsCircuits l circuits (first_of o)) calls now file at at found None told refl none finds) in
    let f = same_front (bytes_from calls file 41) head has.first.0 circuits accepted bulletins m has.first.1 is low high fits begins in
    nothing m.circuits (sym f.circuits_are) fits.circuits
    (begins.0, same_bulletins xs m.bulletins has.second.0 (flat_map circuit_text m.circuits ++ begins.0) (has.size ∙ f.bulletins_are) has.good bodies (sym has.second.1 ∙ f.behind_it))

-- ---- what was found

all_fit : (xs : List values.Bulletin) → AllByRecursion FitsValue xs → AllByRecursion FitsBulletin (map bulletin_of xs)
all_fit [] good = tt
all_fit (x ∷ xs) good = ((omega (arith, good.0.0), omega (arith, good.0.1)), all_fit xs good.1)

all_circuits_fit : (cs : List value_circuit.CircuitNeed) → AllByRecursion FitsValueCircuit cs → AllByRecursion FitsCircuit (map circuit_need_of cs)
all_circuits_fit [] good = tt
all_circuits_fit (c ∷ cs) good = (fits_value c good.0, all_circuits_fit cs good.1)

pub need_fits : (n : Need) → n.accepted < 2 ^ 64 → length n.bulletins < 2 ^ 32 → length n.circuits ≤ 64 → AllByRecursion FitsValue n.bulletins → AllByRecursion FitsValueCircuit n.circuits → FitsNeed (need_of n)
need_fits n low few_bulletins few_circuits bulletins circuits = grind (arith, common_steps, all_circuits_fit, all_fit, length-map)

unowed_all : (cs : List value_circuit.CircuitNeed) → AllByRecursion FitsValueCircuit cs → map unowed_circuit (map circuit_need_of cs) ≡ map circuit_need_of cs
unowed_all [] good = refl
unowed_all (c ∷ cs) good = grind (arith, common_steps, unowed_all cs good.1)

pub need_unowed : (n : Need) → AllByRecursion FitsValueCircuit n.circuits → unowed (need_of n) ≡ need_of n
need_unowed n good = ap (λ (cs : List needs.CircuitNeed). let m : needs.Need = record { accepted = n.accepted; bulletins = map bulletin_of n.bulletins; circuits = cs } in m) (unowed_all n.circuits good)

text_stands : (bytes head : List ℕ) (n : Need) → (stands : BeginsWith bytes head) → head ≡ head_text (length n.circuits) n.accepted (length n.bulletins)
    → (second : BeginsWith stands.0 (flat_map written_bulletin n.bulletins)) → BeginsWith second.0 (flat_map written_circuit n.circuits) → BeginsWith bytes (checkpoint_text (need_of n))
text_stands bytes head n stands is second third = grind (arith, common_steps, need_text)

pub need_stands : (calls now : List Call) (file : ℕ) (head : List ℕ) (circuits bulletins at place : ℕ) (n : Need) (found : Option (List value_circuit.CircuitNeed × ℕ)) → HasBulletins calls file head n.bulletins at bulletins
    → head ≡ head_text circuits n.accepted bulletins → now ≡ calls → found ≡ Some (n.circuits, place) → FindsCircuits (bytes_from now file at) circuits (first_of found) → BeginsWith (bytes_from calls file 41) (checkpoint_text (need_of n))
need_stands calls now file head circuits bulletins at place n found has is told found_is finds =
    let there = moved (λ l o. FindsCircuits l circuits (first_of o)) calls now file at at found (Some (n.circuits, place)) told refl found_is finds in
    text_stands (bytes_from calls file 41) head n has.first (is ∙ (λ k. head_text (sym there.1 k) n.accepted (sym has.size k))) has.second
    (subst (λ (l : List ℕ). BeginsWith l (flat_map written_circuit n.circuits)) has.behind_it there.0)

pub gate_behind : (n : Need) (at behind_bulletins : ℕ) → behind_bulletins ≡ 41 + 20 + length (flat_map written_bulletin n.bulletins) → at ≡ behind_bulletins + length (flat_map written_circuit n.circuits)
    → at ≡ 41 + length (checkpoint_text (need_of n))
gate_behind n at behind_bulletins first second = omega (arith, need_size n, first, second)

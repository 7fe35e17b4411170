-- Bytes that spell a report, and bytes that stop doing so.
use Rattle.std.proofs.Common.{◌≡◌, ◌≢◌, ◌∙◌, refl, sym, ap, subst, ℕ, ◌+◌, ◌-◌, ◌≤◌, List, [], ◌∷◌, ◌++◌, length, take, Ok, Err, append_assoc, arith}
use Rattle.std.proofs.lemmas.List.{append-nil, length-append}
use Rattle.std.proofs.Math.Seq.{take-append_seam}
use Rattle.lam_stock.specs.declared.item.Item.{Item}
use Rattle.lam_job.specs.JobData.{JobData}
use Rattle.lam_tree.specs.declared.report.Report.{Report}
use Rattle.lam_report.specs.LineText.{text_of, whole_lines, tail_of}
use Rattle.lam_report.specs.ReportText.{report_lines}
use Rattle.lam_report.specs.ReportGrammar.{Begins, IsFirstFault, Spells}
use Rattle.lam_report.specs.inside.Reading.{Lines}
use Rattle.lam_report.specs.inside.ReportReading.{report_at}
use Rattle.lam_report.proofs.CutLaws.{text_again, lines_again}
use Rattle.lam_report.proofs.Parsing.{Parses, ok_pair, ok_is_not_err}
use Rattle.lam_report.proofs.GrammarLaws.{Given, ReportOf, report_parses}

module _ (stock : List Item) (job : JobData) (given : Given stock job) where
  parses : Parses (ReportOf stock job given) (report_at stock job)
  parses = report_parses stock job given

  -- ---- bytes that spell a report

  -- its lines are those of the bytes, and nothing stands behind them
  pub spelled_lines : (r : Report) (bytes : List ℕ) → Spells stock job r bytes → (whole_lines bytes ≡ report_lines stock job r) × (tail_of bytes ≡ [])
  spelled_lines r bytes is =
      let again = lines_again (report_lines stock job r) (parses.lines r (report_lines stock job r) (is.report_is, refl)) in
      (ap whole_lines is.text ∙ again.0, ap tail_of is.text ∙ again.1)

  pub spelled_read : (r : Report) (bytes : List ℕ) → Spells stock job r bytes → (report_at stock job (whole_lines bytes) ≡ Ok (r, [])) × (tail_of bytes ≡ [])
  spelled_read r bytes is =
      let cut = spelled_lines r bytes is in (
        ap (report_at stock job) (cut.0 ∙ sym (append-nil (report_lines stock job r))) ∙ parses.again r (report_lines stock job r) [] (is.report_is, refl),
        cut.1,
      )

  -- what is read whole is spelled
  pub read_spelled : (r : Report) (bytes : List ℕ) → report_at stock job (whole_lines bytes) ≡ Ok (r, []) → tail_of bytes ≡ [] → Spells stock job r bytes
  read_spelled r bytes e none =
      let t = parses.takes (whole_lines bytes) r [] e in
      record {
        report_is = t.is.0;
        text = text_again bytes ∙ ap (λ l. text_of (whole_lines bytes) ++ l) none ∙ append-nil (text_of (whole_lines bytes))
            ∙ ap text_of (t.text ∙ append-nil t.front ∙ t.is.1);
      }

  -- ---- bytes that do not

  begins_of : (front : Lines) → (r : Report) × (more : Lines) × ReportOf stock job given r (front ++ more) → Begins stock job front
  begins_of front (r, more, of) = (r, more, of.0, sym of.1)

  of_begins : (front : Lines) → Begins stock job front → (r : Report) × (more : Lines) × ReportOf stock job given r (front ++ more)
  of_begins front (r, more, is, text) = (r, more, (is, sym text))

  take_front : (front left : Lines) → take (length front) (front ++ left) ≡ front
  take_front front left = take-append_seam front left

  take_next : (front : Lines) (line : List ℕ) (rest : Lines) → take (length front + 1) (front ++ line ∷ rest) ≡ front ++ line ∷ []
  take_next front line rest =
      let long = length-append front (line ∷ []) in
      let same : length front + 1 ≡ length (front ++ line ∷ []) = omega (arith, long) in
      ap (λ l. take (length front + 1) l) (sym (append_assoc front (line ∷ []) rest))
      ∙ ap (λ n. take n (front ++ line ∷ [] ++ rest)) same ∙ take-append_seam (front ++ line ∷ []) rest

  -- the first fault stands behind lines with which a report begins
  first_fault : (bytes : List ℕ) (front left : Lines) (line : ℕ) → whole_lines bytes ≡ front ++ left → line ≡ length front + 1 → Begins stock job front
      → ((first : List ℕ) (rest : Lines) → left ≡ first ∷ rest → ¬ Begins stock job (front ++ first ∷ []))
      → ((r : Report) → ¬ Spells stock job r bytes) → IsFirstFault stock job bytes line
  first_fault bytes front left line text is begins stops none =
      let all = ap length text in
      let long = length-append front left in
      let before : line - 1 ≡ length front = omega (arith, is) in
      record {
        counted = omega (arith, is);
        within = omega (arith, is, all, long);
        before = subst (Begins stock job) (sym (ap (λ n. take n (whole_lines bytes)) before ∙ ap (take (length front)) text ∙ take_front front left)) begins;
        here = λ more. by left refl text stops (omega (arith, is, all, long, more));
        no_report = none;
      } where
        by : (rest : Lines) → left ≡ rest → whole_lines bytes ≡ front ++ left
            → ((first : List ℕ) (rest : Lines) → left ≡ first ∷ rest → ¬ Begins stock job (front ++ first ∷ []))
            → 1 ≤ length left → ¬ Begins stock job (take line (whole_lines bytes))
        by [] e text stops some begins = let n = ap length e in omega (arith, n, some)
        by (first ∷ rest) e text stops some begins =
            stops first rest e
            (subst (Begins stock job) (ap (λ n. take n (whole_lines bytes)) is ∙ ap (take (length front + 1)) (text ∙ ap (λ l. front ++ l) e) ∙ take_next front first rest) begins)

  -- a reader that stops
  pub refused_fault : (bytes : List ℕ) (left : Lines) (line : ℕ) → report_at stock job (whole_lines bytes) ≡ Err left → line + length left ≡ length (whole_lines bytes) + 1
      → IsFirstFault stock job bytes line
  refused_fault bytes left line e is =
      let fault = parses.fault (whole_lines bytes) left e in
      let all = ap length fault.text in
      let long = length-append fault.front left in
      first_fault bytes fault.front left line fault.text (omega (arith, is, all, long)) (begins_of fault.front fault.begins)
      (λ first rest same begins. fault.stops first rest same (of_begins (fault.front ++ first ∷ []) begins))
      (λ r spells. ok_is_not_err r [] left (sym (spelled_read r bytes spells).0 ∙ e))

  -- a report behind which bytes are left
  pub undone_fault : (bytes : List ℕ) (r : Report) (left : Lines) (line : ℕ) → report_at stock job (whole_lines bytes) ≡ Ok (r, left)
      → line + length left ≡ length (whole_lines bytes) + 1 → (left ≡ [] → tail_of bytes ≢ []) → IsFirstFault stock job bytes line
  undone_fault bytes r left line e is more =
      let t = parses.takes (whole_lines bytes) r left e in
      let all = ap length t.text in
      let long = length-append t.front left in
      first_fault bytes t.front left line t.text (omega (arith, is, all, long))
      (r, [], t.is.0, sym t.is.1 ∙ sym (append-nil t.front))
      (λ first rest same (other, later, other_is, lines).
      (let mine = parses.again r t.front (first ∷ [] ++ later) t.is in
      let its = parses.again other (report_lines stock job other) [] (other_is, refl) in
      let cut : t.front ++ (first ∷ [] ++ later) ≡ report_lines stock job other ++ [] = sym (append_assoc t.front (first ∷ []) later) ∙ sym lines ∙ sym (append-nil (report_lines stock job other)) in
      let n : first ∷ later ≡ [] = (ok_pair r other (first ∷ [] ++ later) [] (sym mine ∙ ap (report_at stock job) cut ∙ its)).1 in cc))
      (λ other spells. (
      let read = spelled_read other bytes spells in
      let none = (ok_pair r other left [] (sym e ∙ read.0)).1 in
      more none read.1
      ))

  -- a report is spelled by its bytes alone
  pub one_report : (r other : Report) (bytes : List ℕ) → Spells stock job r bytes → Spells stock job other bytes → r ≡ other
  one_report r other bytes one its = (ok_pair r other [] [] (sym (spelled_read r bytes one).0 ∙ (spelled_read other bytes its).0)).0

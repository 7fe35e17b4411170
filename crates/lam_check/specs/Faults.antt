-- The faults that a check answers.
use Rattle.lam_tree.specs.Findings.{Cause, Fault, WrongCost, NotAdmissible, WrongRatio, NotNear, OutOfOrder, UnlawfulSplit, WrongLeaf, WrongBudget, WrongAnswer}
use Rattle.lam_check.specs.declared.fault.CheckCause.{CheckCause}
use Rattle.lam_check.specs.declared.fault.CheckCause.TheVariants as code
use Rattle.lam_check.specs.declared.fault.CheckFault.{CheckFault}

-- what each cause says
abbrev pub cause_is : CheckCause → Cause
cause_is code.Cost = WrongCost
cause_is code.Best = NotAdmissible
cause_is code.Ratio = WrongRatio
cause_is code.Near = NotNear
cause_is code.Order = OutOfOrder
cause_is code.Unlawful = UnlawfulSplit
cause_is code.Leaf = WrongLeaf
cause_is code.Budget = WrongBudget
cause_is code.Answer = WrongAnswer

abbrev pub fault_is : CheckFault → Fault
fault_is fault = record { line = fault.line; cause = cause_is fault.cause }

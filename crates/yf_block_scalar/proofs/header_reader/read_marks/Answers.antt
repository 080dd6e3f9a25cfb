use Rattle.yf_block_scalar.specs.Header.Indicators.{neither, digit_alone, sign_alone, digit_sign, sign_digit}
use Rattle.yf_block_scalar.proofs.HeaderLemmas.{only_digit_sign, only_digit, only_sign_digit, only_sign, only_neither}
use Rattle.yf_block_scalar.proofs.header_reader.read_marks.Goals as goal

pub returns-in-Some-sign_at-clause-reads : goal.returns-in-Some-sign_at-clause-reads
returns-in-Some-sign_at-clause-reads c = digit_sign c.in-Some.ensures.reads c.in-Some-sign_at.ensures.reads

pub returns-in-Some-sign_at-clause-all : goal.returns-in-Some-sign_at-clause-all
returns-in-Some-sign_at-clause-all c = only_digit_sign c.in-Some.ensures.reads c.in-Some-sign_at.ensures.reads

pub returns-in-None-sign_at-clause-reads : goal.returns-in-None-sign_at-clause-reads
returns-in-None-sign_at-clause-reads c = digit_alone c.in-Some.ensures.reads

pub returns-in-None-sign_at-clause-all : goal.returns-in-None-sign_at-clause-all
returns-in-None-sign_at-clause-all c = only_digit c.in-Some.ensures.reads c.in-None-sign_at.ensures.reads

pub returns-in-Some-digit_at-clause-reads : goal.returns-in-Some-digit_at-clause-reads
returns-in-Some-digit_at-clause-reads c = sign_digit c.in-Some-sign_at-2.ensures.reads c.in-Some-digit_at.ensures.reads

pub returns-in-Some-digit_at-clause-all : goal.returns-in-Some-digit_at-clause-all
returns-in-Some-digit_at-clause-all c = only_sign_digit c.in-Some-sign_at-2.ensures.reads c.in-Some-digit_at.ensures.reads

pub returns-in-None-digit_at-clause-reads : goal.returns-in-None-digit_at-clause-reads
returns-in-None-digit_at-clause-reads c = sign_alone c.in-Some-sign_at-2.ensures.reads

pub returns-in-None-digit_at-clause-all : goal.returns-in-None-digit_at-clause-all
returns-in-None-digit_at-clause-all c = only_sign c.in-Some-sign_at-2.ensures.reads c.in-None-digit_at.ensures.reads

pub returns-in-None-sign_at-2-clause-reads : goal.returns-in-None-sign_at-2-clause-reads
returns-in-None-sign_at-2-clause-reads c = neither

pub returns-in-None-sign_at-2-clause-all : goal.returns-in-None-sign_at-2-clause-all
returns-in-None-sign_at-2-clause-all c = only_neither c.in-None.ensures.reads c.in-None-sign_at-2.ensures.reads
